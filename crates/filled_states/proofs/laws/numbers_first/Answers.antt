use Rattle.filled_states.proofs.Found.{numbers_first}
use Rattle.filled_states.proofs.laws.numbers_first.Goals as goal

pub returns : goal.returns
returns c = numbers_first
