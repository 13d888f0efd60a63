-- What is left is the state of the type.
use Rattle.std.proofs.Common.{◌∙◌}
use Rattle.delta_step.proofs.without_calls.sunk.Goals as goal

pub returns-in-Ok-clause-rest : goal.returns-in-Ok-clause-rest
returns-in-Ok-clause-rest c = c.quiet.ensures.rest ∙ (rw c.in-Ok.ensures.1 at (c.sink_boxed-state.ensures _ c.copy.ensures))
