use Rattle.state_bounds.proofs.ProgramBounds.{event_holds}
use Rattle.state_bounds.proofs.laws.event_holds.Goals as goal

pub returns : goal.returns
returns c = event_holds
