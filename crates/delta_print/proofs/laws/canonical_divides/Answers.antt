-- Token by token.
use Rattle.delta_print.proofs.Dividing.{program_divides}
use Rattle.delta_print.proofs.laws.canonical_divides.Goals as goal

pub returns : goal.returns
returns c = λ p s. program_divides p s 0
