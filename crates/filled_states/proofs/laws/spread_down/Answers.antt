use Rattle.filled_states.proofs.ShiftedDepths.{spread_down}
use Rattle.filled_states.proofs.laws.spread_down.Goals as goal

pub returns : goal.returns
returns c = spread_down
