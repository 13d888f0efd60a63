-- None of the marks of the first part has come, or one has.
use Rattle.kept_check.proofs.Placed.{both_then, both_else}
use Rattle.kept_check.proofs.placing.+uncut.Goals as goal

pub are_uncut-returns-then-is_uncut : goal.are_uncut-returns-then-is_uncut
are_uncut-returns-then-is_uncut t c =
    both_then c.is_uncut.result c.is_uncut-then-is_uncut.result _ _ (rw c.parted.ensures.first at c.is_uncut.ensures) c.if-is_uncut.true (rw c.parted.ensures.second at c.is_uncut-then-is_uncut.ensures)

pub are_uncut-returns-else-is_uncut : goal.are_uncut-returns-else-is_uncut
are_uncut-returns-else-is_uncut t c = both_else c.is_uncut.result _ _ (rw c.parted.ensures.first at c.is_uncut.ensures) c.if-is_uncut.false
