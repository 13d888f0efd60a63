-- The parts of a let stand in their order.
use Rattle.std.proofs.Common.{rules}
use Rattle.template_state.proofs.compiling.let_of.Goals as goal

pub returns-in-Ok : goal.returns-in-Ok
returns-in-Ok c = search rules
