use Rattle.filled_states.proofs.Found.{numbers_found}
use Rattle.filled_states.proofs.laws.numbers_found.Goals as goal

pub returns : goal.returns
returns c = numbers_found
