use Rattle.filled_states.proofs.FilledStates.{filled_with_none}
use Rattle.filled_states.proofs.laws.filled_with_none.Goals as goal

pub returns : goal.returns
returns c = filled_with_none
