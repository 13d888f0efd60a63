use Rattle.delta_run.proofs.JoinedRuns.{runs_join}
use Rattle.delta_run.proofs.laws.runs_join.Goals as goal

pub returns : goal.returns
returns c = runs_join
