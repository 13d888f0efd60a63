use Rattle.delta_run.proofs.JoinedRuns.{all_runs_join}
use Rattle.delta_run.proofs.laws.all_runs_join.Goals as goal

pub returns : goal.returns
returns c = all_runs_join
