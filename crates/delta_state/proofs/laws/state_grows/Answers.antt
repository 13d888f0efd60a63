use Rattle.delta_state.proofs.GrowingStates.{state_grows}
use Rattle.delta_state.proofs.laws.state_grows.Goals as goal

pub returns : goal.returns
returns c = state_grows
