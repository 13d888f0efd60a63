use Rattle.state_bounds.proofs.ProgramBounds.{machine_holds}
use Rattle.state_bounds.proofs.laws.machine_holds.Goals as goal

pub returns : goal.returns
returns c = machine_holds
