use Rattle.delta_state.proofs.GrowingStates.{state_is_typed}
use Rattle.delta_state.proofs.laws.state_is_typed.Goals as goal

pub returns : goal.returns
returns c = state_is_typed
