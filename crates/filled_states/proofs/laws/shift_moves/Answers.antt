use Rattle.filled_states.proofs.ShiftedDepths.{shift_moves}
use Rattle.filled_states.proofs.laws.shift_moves.Goals as goal

pub returns : goal.returns
returns c = shift_moves
