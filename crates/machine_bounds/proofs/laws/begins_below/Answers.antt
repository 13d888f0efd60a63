use Rattle.machine_bounds.proofs.BelowBounds.{begins_below}
use Rattle.machine_bounds.proofs.laws.begins_below.Goals as goal

pub returns : goal.returns
returns c = begins_below
