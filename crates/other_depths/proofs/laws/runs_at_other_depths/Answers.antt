use Rattle.other_depths.proofs.DeepStates.{runs_at_other_depths}
use Rattle.other_depths.proofs.laws.runs_at_other_depths.Goals as goal

pub returns : goal.returns
returns c = runs_at_other_depths
