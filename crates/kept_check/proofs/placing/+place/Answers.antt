-- The first part is over, or it isn't; it is in its place, or it isn't.
use Rattle.bunch.specs.BunchTree.{tree_of}
use Rattle.kept_check.specs.Given.{type_given}
use Rattle.kept_check.proofs.Placed.{both_then, both_else, over_then, over_else}
use Rattle.kept_check.proofs.placing.+place.Goals as goal

pub is_past-returns-then-is_over : goal.is_past-returns-then-is_over
is_past-returns-then-is_over t c =
    over_then c.is_over.result c.are_places.result (tree_of c.args.a.now) (type_given c.args.left.now) _ _ c.is_over.ensures c.if-is_over.true c.are_places.ensures

pub is_past-returns-else-is_over : goal.is_past-returns-else-is_over
is_past-returns-else-is_over t c = over_else c.is_over.result (tree_of c.args.a.now) (type_given c.args.left.now) _ _ c.is_over.ensures c.if-is_over.false

pub are_places-returns-then-is_place : goal.are_places-returns-then-is_place
are_places-returns-then-is_place t c =
    both_then c.is_place.result c.is_place-then-is_place.result _ _ (rw c.parted.ensures.first at c.is_place.ensures) c.if-is_place.true (rw c.parted.ensures.second at c.is_place-then-is_place.ensures)

pub are_places-returns-else-is_place : goal.are_places-returns-else-is_place
are_places-returns-else-is_place t c = both_else c.is_place.result _ _ (rw c.parted.ensures.first at c.is_place.ensures) c.if-is_place.false

pub is_before-returns-then-is_place : goal.is_before-returns-then-is_place
is_before-returns-then-is_place t c =
    both_then c.is_place.result c.is_untouched.result _ _ (rw c.parted.ensures.first at c.is_place.ensures) c.if-is_place.true (rw c.parted.ensures.second at c.is_untouched.ensures)

pub is_before-returns-else-is_place : goal.is_before-returns-else-is_place
is_before-returns-else-is_place t c = both_else c.is_place.result _ _ (rw c.parted.ensures.first at c.is_place.ensures) c.if-is_place.false
