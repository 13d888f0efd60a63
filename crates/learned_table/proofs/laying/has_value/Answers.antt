-- What the expression had is laid on what it has.
use Rattle.std.proofs.Common.{sym, ◌∙◌}
use Rattle.state_shapes.specs.RegisterLists.{lists_in}
use Rattle.state_shapes.proofs.Growing.{stops, no_memory, longer_still, goes_first, goes_so}
use Rattle.learned_table.proofs.laying.has_value.Goals as goal

pub returns-then-not-goes_on : goal.returns-then-not-goes_on
returns-then-not-goes_on c = stops c.if-not-goes_on.ensures.1

pub returns-in-Ok : goal.returns-in-Ok
returns-in-Ok c = goes_first (c.goes_on.ensures.0 c.if-not-goes_on.false) (goes_so _ c.value_goes.ensures (λ x e. sym c.in-Ok.ensures ∙ e))

pub returns-in-Err : goal.returns-in-Err
returns-in-Err c = no_memory _ (longer_still (lists_in c.args.found.now))
