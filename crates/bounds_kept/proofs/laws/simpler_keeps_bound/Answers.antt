use Rattle.bounds_kept.proofs.SimplerBounds.{simpler_keeps_bound}
use Rattle.bounds_kept.proofs.laws.simpler_keeps_bound.Goals as goal

pub returns : goal.returns
returns c = simpler_keeps_bound
