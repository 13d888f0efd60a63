use Rattle.delta_run.proofs.JoinedStates.{state_is_one}
use Rattle.delta_run.proofs.laws.state_is_one.Goals as goal

pub returns : goal.returns
returns c = state_is_one
