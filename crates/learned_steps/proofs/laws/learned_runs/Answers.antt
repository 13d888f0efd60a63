use Rattle.learned_steps.proofs.LearnedRuns.{learned_runs}
use Rattle.learned_steps.proofs.laws.learned_runs.Goals as goal

pub returns : goal.returns
returns c = learned_runs
