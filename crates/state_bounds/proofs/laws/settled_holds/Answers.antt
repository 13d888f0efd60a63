use Rattle.state_bounds.proofs.ProgramBounds.{settled_holds}
use Rattle.state_bounds.proofs.laws.settled_holds.Goals as goal

pub returns : goal.returns
returns c = settled_holds
