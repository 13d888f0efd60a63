use Rattle.delta_state.proofs.FinishedStates.{settled_is_finished}
use Rattle.delta_state.proofs.laws.settled_is_finished.Goals as goal

pub returns : goal.returns
returns c = settled_is_finished
