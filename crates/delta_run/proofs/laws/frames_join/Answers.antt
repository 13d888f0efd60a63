use Rattle.delta_run.proofs.JoinedStates.{frames_join}
use Rattle.delta_run.proofs.laws.frames_join.Goals as goal

pub returns : goal.returns
returns c = frames_join
