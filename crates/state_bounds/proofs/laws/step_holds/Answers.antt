use Rattle.state_bounds.proofs.ProgramBounds.{step_holds}
use Rattle.state_bounds.proofs.laws.step_holds.Goals as goal

pub returns : goal.returns
returns c = step_holds
