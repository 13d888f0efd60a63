-- The copies so far are equal to the nodes seen so far, and stand at their places. Each call goes down, or is
-- nearer to one that does.
use Rattle.std.proofs.Common.{◌≡◌, ◌+◌, ◌*◌, max, take, map}
use Rattle.core_term.specs.declared.term.Node.{size-Node}
use Rattle.core_term.specs.declared.term.Term.{size-Term}
use Rattle.core_term.specs.CoreTerm.{term_of, places_of}
use Rattle.core_term.proofs.copying.+copy.Given as goal

abbrev pub invariant-copy_all-loop-node : goal.invariant-copy_all-loop-node
invariant-copy_all-loop-node l =
    (map term_of l.copies.items ≡ map term_of (take l.node-index l.nodes)) × (map places_of l.copies.items ≡ map places_of (take l.node-index l.nodes))

abbrev pub decreases-copy : goal.decreases-copy
decreases-copy l = 6 * size-Node l.n.now + 1

abbrev pub decreases-copy_term : goal.decreases-copy_term
decreases-copy_term l = 6 * size-Term l.t.now

abbrev pub decreases-boxed : goal.decreases-boxed
decreases-boxed l = 6 * size-Node l.n.now + 2

abbrev pub decreases-both : goal.decreases-both
decreases-both l = max (6 * size-Node l.a.now) (6 * size-Node l.b.now) + 3

abbrev pub decreases-copy_let : goal.decreases-copy_let
decreases-copy_let l = max (6 * size-Node l.a.now) (6 * size-Node l.b.now) + 4

abbrev pub decreases-copy_case_sum : goal.decreases-copy_case_sum
decreases-copy_case_sum l = max (6 * size-Node l.a.now) (6 * size-Node l.b.now) + 4

abbrev pub decreases-copy_case_star : goal.decreases-copy_case_star
decreases-copy_case_star l = max (6 * size-Node l.a.now) (6 * size-Node l.b.now) + 4

abbrev pub decreases-copy_wait : goal.decreases-copy_wait
decreases-copy_wait l = 6 * size-Node l.a.now + 3

abbrev pub decreases-copy_call : goal.decreases-copy_call
decreases-copy_call l = 6 * goal.size-copy_call l + 3

abbrev pub decreases-copy_all : goal.decreases-copy_all
decreases-copy_all l = 6 * goal.size-copy_all l + 2
