use Rattle.delta_run.proofs.AgreeingRuns.{runs_grow}
use Rattle.delta_run.proofs.laws.runs_grow.Goals as goal

pub returns : goal.returns
returns c = runs_grow
