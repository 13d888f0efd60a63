use Rattle.other_depths.proofs.DeepStates.{depths_stay}
use Rattle.other_depths.proofs.laws.depths_stay.Goals as goal

pub returns : goal.returns
returns c = depths_stay
