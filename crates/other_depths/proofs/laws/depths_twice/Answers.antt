use Rattle.other_depths.proofs.DeepStates.{depths_twice}
use Rattle.other_depths.proofs.laws.depths_twice.Goals as goal

pub returns : goal.returns
returns c = depths_twice
