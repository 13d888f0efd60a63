use Rattle.delta_run.proofs.JoinedStates.{kept_further}
use Rattle.delta_run.proofs.laws.kept_further.Goals as goal

pub returns : goal.returns
returns c = kept_further
