use Rattle.bounds_kept.proofs.SimplerBounds.{simpler_is_within}
use Rattle.bounds_kept.proofs.laws.simpler_is_within.Goals as goal

pub returns : goal.returns
returns c = simpler_is_within
