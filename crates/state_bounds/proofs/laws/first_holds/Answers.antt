use Rattle.state_bounds.proofs.ProgramBounds.{first_holds}
use Rattle.state_bounds.proofs.laws.first_holds.Goals as goal

pub returns : goal.returns
returns c = first_holds
