use Rattle.machine_bounds.proofs.BelowBounds.{simpler_below}
use Rattle.machine_bounds.proofs.laws.simpler_below.Goals as goal

pub returns : goal.returns
returns c = simpler_below
