-- The shape filled from the registers, and copies of the rest.
use Rattle.stations.proofs.unfolding.unfold.Goals as goal

pub returns : goal.returns
returns c =
    c.standing.ensures _ _ _ _ (rw (c.deref.ensures.value, c.deref-2.ensures.value, c.deref-3.ensures.value, c.deref-4.ensures.value, c.deref-5.ensures) at c.fill.ensures)
    (rw c.deref-6.ensures at c.copy_awaited.ensures) (rw c.deref-7.ensures at c.copy_boxed.ensures) (rw c.deref-8.ensures at c.copy_boxed-2.ensures)
