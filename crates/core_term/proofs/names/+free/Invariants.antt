-- With the names that the terms left add, those found so far are all that the terms add. Each call goes down,
-- or is nearer to one that does.
use Rattle.std.proofs.Common.{◌≡◌, ◌+◌, ◌*◌, max, drop}
use Rattle.bunch.specs.Names.{numbers_of}
use Rattle.core_term.specs.declared.term.Node.{size-Node}
use Rattle.core_term.specs.Around.{names_around}
use Rattle.core_term.proofs.FreeRows.{added_by}
use Rattle.core_term.proofs.names.+free.Given as goal

abbrev pub invariant-add_free_of_all-loop-term : goal.invariant-add_free_of_all-loop-term
invariant-add_free_of_all-loop-term l =
    added_by (numbers_of l.found.items) (names_around l.around) (drop l.term-index l.terms) ≡ added_by (numbers_of l.fn.found.items) (names_around l.around) l.terms

abbrev pub decreases-add_free : goal.decreases-add_free
decreases-add_free l = 3 * size-Node l.n.now

abbrev pub decreases-add_free_of_two : goal.decreases-add_free_of_two
decreases-add_free_of_two l = max (3 * size-Node l.a.now) (3 * size-Node l.b.now) + 1

abbrev pub decreases-add_name_and_free : goal.decreases-add_name_and_free
decreases-add_name_and_free l = 3 * size-Node l.a.now + 1

abbrev pub decreases-add_name_and_two : goal.decreases-add_name_and_two
decreases-add_name_and_two l = max (3 * size-Node l.a.now) (3 * size-Node l.b.now) + 2

abbrev pub decreases-add_free_of_all : goal.decreases-add_free_of_all
decreases-add_free_of_all l = 3 * goal.size-add_free_of_all l + 1
