use Rattle.other_depths.proofs.DeepStates.{simpler_at_other_depths}
use Rattle.other_depths.proofs.laws.simpler_at_other_depths.Goals as goal

pub returns : goal.returns
returns c = simpler_at_other_depths
