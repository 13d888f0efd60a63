use Rattle.filled_states.proofs.FilledStates.{filled_after}
use Rattle.filled_states.proofs.laws.filled_after.Goals as goal

pub returns : goal.returns
returns c = filled_after
