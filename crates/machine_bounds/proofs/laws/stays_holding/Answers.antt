use Rattle.machine_bounds.proofs.BelowBounds.{stays_holding}
use Rattle.machine_bounds.proofs.laws.stays_holding.Goals as goal

pub returns : goal.returns
returns c = stays_holding
