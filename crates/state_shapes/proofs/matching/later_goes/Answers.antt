-- The code, its depth and the values that it sees.
use Rattle.state_shapes.proofs.Growing.{stops, goes_two}
use Rattle.state_shapes.proofs.SameForms.{later_same}
use Rattle.state_shapes.proofs.matching.later_goes.Goals as goal

pub returns-then-not-goes_on : goal.returns-then-not-goes_on
returns-then-not-goes_on c = stops c.if-not-goes_on.ensures.1

pub returns : goal.returns
returns c =
    goes_two _ (c.goes_on.ensures.0 c.if-not-goes_on.false) c.depth_goes-first.ensures (rw (c.deref-3.ensures, c.deref-4.ensures) at c.past_goes.ensures)
    (λ e x d k. later_same (rw (c.deref.ensures, c.deref-2.ensures) at (c.same_op.ensures e)) d k)
