use Rattle.filled_states.proofs.Found.{numbers_in_turn}
use Rattle.filled_states.proofs.laws.numbers_in_turn.Goals as goal

pub returns : goal.returns
returns c = numbers_in_turn
