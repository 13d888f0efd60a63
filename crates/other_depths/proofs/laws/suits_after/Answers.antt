use Rattle.other_depths.proofs.DepthsLeft.{suits_after}
use Rattle.other_depths.proofs.laws.suits_after.Goals as goal

pub returns : goal.returns
returns c = suits_after
