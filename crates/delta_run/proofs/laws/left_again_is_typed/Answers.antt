use Rattle.delta_run.proofs.JoinedStates.{left_again_is_typed}
use Rattle.delta_run.proofs.laws.left_again_is_typed.Goals as goal

pub returns : goal.returns
returns c = left_again_is_typed
