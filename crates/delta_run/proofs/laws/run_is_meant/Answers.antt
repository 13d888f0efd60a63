use Rattle.delta_run.proofs.AgreeingRuns.{run_is_meant}
use Rattle.delta_run.proofs.laws.run_is_meant.Goals as goal

pub returns : goal.returns
returns c = run_is_meant
