use Rattle.delta_runner.proofs.JoinedRuns.{runs_join}
use Rattle.delta_runner.proofs.laws.runs_join.Goals as goal

pub returns : goal.returns
returns c = runs_join
