use Rattle.machine_bounds.proofs.BelowBounds.{goes_on_below}
use Rattle.machine_bounds.proofs.laws.goes_on_below.Goals as goal

pub returns : goal.returns
returns c = goes_on_below
