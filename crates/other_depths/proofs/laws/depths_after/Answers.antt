use Rattle.other_depths.proofs.DepthsLeft.{depths_after}
use Rattle.other_depths.proofs.laws.depths_after.Goals as goal

pub returns : goal.returns
returns c = depths_after
