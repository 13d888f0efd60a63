use Rattle.delta_state.proofs.WholeStates.{state_is_whole}
use Rattle.delta_state.proofs.laws.state_is_whole.Goals as goal

pub returns : goal.returns
returns c = state_is_whole
