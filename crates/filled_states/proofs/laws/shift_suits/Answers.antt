use Rattle.filled_states.proofs.ShiftedDepths.{shift_suits}
use Rattle.filled_states.proofs.laws.shift_suits.Goals as goal

pub returns : goal.returns
returns c = shift_suits
