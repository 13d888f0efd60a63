use Rattle.filled_states.proofs.ShiftedDepths.{spread_is_distinct}
use Rattle.filled_states.proofs.laws.spread_is_distinct.Goals as goal

pub returns : goal.returns
returns c = spread_is_distinct
