use Rattle.bounds_kept.proofs.SimplerBounds.{simpler_stays_below}
use Rattle.bounds_kept.proofs.laws.simpler_stays_below.Goals as goal

pub returns : goal.returns
returns c = simpler_stays_below
