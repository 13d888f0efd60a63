use Rattle.delta_run.proofs.AgreeingRuns.{runs_agree}
use Rattle.delta_run.proofs.laws.runs_agree.Goals as goal

pub returns : goal.returns
returns c = runs_agree
