-- The arguments so far break no rule, so the rest decide. Each call goes down, or is nearer to one that does.
use Rattle.std.proofs.Common.{◌+◌, ◌*◌, max}
use Rattle.bunch.specs.BunchTree.{tree_of}
use Rattle.core_term.specs.declared.term.Node.{size-Node}
use Rattle.core_term.specs.declared.term.Term.{size-Term}
use Rattle.core_term.specs.CoreTerm.{core_of, leaf_types}
use Rattle.delta_check.specs.Counting.{counts_in}
use Rattle.delta_check.specs.Scopes.{context_in}
use Rattle.delta_check.proofs.Turns.{ArgumentsLeft}
use Rattle.delta_check.proofs.checking.+check.Given as goal

abbrev pub invariant-check_arguments-loop-i : goal.invariant-check_arguments-loop-i
invariant-check_arguments-loop-i l =
    ArgumentsLeft (core_of l.c).funs (counts_in (core_of l.c).funs l.marks) (context_in l.scope) l.number l.next l.arguments (leaf_types (tree_of l.params)) l.i

abbrev pub decreases-check_node : goal.decreases-check_node
decreases-check_node l = 6 * size-Node l.n.now + 1

abbrev pub decreases-check_parts : goal.decreases-check_parts
decreases-check_parts l = 6 * size-Term l.term.now

abbrev pub decreases-check_two : goal.decreases-check_two
decreases-check_two l = max (6 * size-Node l.a.now) (6 * size-Node l.b.now) + 2

abbrev pub decreases-check_let : goal.decreases-check_let
decreases-check_let l = max (6 * size-Node l.a.now) (6 * size-Node l.b.now) + 3

abbrev pub decreases-check_arguments : goal.decreases-check_arguments
decreases-check_arguments l = 6 * goal.size-check_arguments l + 2
