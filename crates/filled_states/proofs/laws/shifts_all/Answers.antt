use Rattle.filled_states.proofs.ShiftedDepths.{shifts_all}
use Rattle.filled_states.proofs.laws.shifts_all.Goals as goal

pub returns : goal.returns
returns c = shifts_all
