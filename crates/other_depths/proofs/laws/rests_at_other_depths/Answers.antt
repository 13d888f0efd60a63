use Rattle.other_depths.proofs.DeepStates.{rests_at_other_depths}
use Rattle.other_depths.proofs.laws.rests_at_other_depths.Goals as goal

pub returns : goal.returns
returns c = rests_at_other_depths
