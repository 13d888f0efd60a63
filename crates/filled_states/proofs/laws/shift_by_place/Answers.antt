use Rattle.filled_states.proofs.ShiftedDepths.{shift_by_place}
use Rattle.filled_states.proofs.laws.shift_by_place.Goals as goal

pub returns : goal.returns
returns c = shift_by_place
