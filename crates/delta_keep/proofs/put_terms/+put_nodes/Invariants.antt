-- What is put out so far are the items seen so far, and the numbers in them have their sizes.
use Rattle.std.proofs.Common.{◌+◌, ◌*◌, max, take}
use Rattle.core_term.specs.declared.term.Node.{size-Node}
use Rattle.core_term.specs.declared.term.Term.{size-Term}
use Rattle.delta_keep.specs.Written.{written_node}
use Rattle.delta_keep.specs.Reads.{FitsNode}
use Rattle.delta_keep.proofs.PutSizes.{PutSome}
use Rattle.delta_keep.proofs.put_terms.+put_nodes.Given as goal

abbrev pub invariant-put_nodes-loop-node : goal.invariant-put_nodes-loop-node
invariant-put_nodes-loop-node l = PutSome written_node (λ n. n) FitsNode l.initial.out l.out (take l.node-index l.nodes)

abbrev pub decreases-put_node : goal.decreases-put_node
decreases-put_node l = 5 * size-Node l.n.now + 1

abbrev pub decreases-put_term : goal.decreases-put_term
decreases-put_term l = 5 * size-Term l.t.now

abbrev pub decreases-put_one_node : goal.decreases-put_one_node
decreases-put_one_node l = 5 * size-Node l.a.now + 2

abbrev pub decreases-put_two_nodes : goal.decreases-put_two_nodes
decreases-put_two_nodes l = max (5 * size-Node l.a.now) (5 * size-Node l.b.now) + 2

abbrev pub decreases-put_case_sum : goal.decreases-put_case_sum
decreases-put_case_sum l = max (5 * size-Node l.a.now) (5 * size-Node l.b.now) + 2

abbrev pub decreases-put_case_star : goal.decreases-put_case_star
decreases-put_case_star l = max (5 * size-Node l.a.now) (5 * size-Node l.b.now) + 2

abbrev pub decreases-put_nodes : goal.decreases-put_nodes
decreases-put_nodes l = 5 * goal.size-put_nodes l + 2

abbrev pub decreases-put_call : goal.decreases-put_call
decreases-put_call l = 5 * goal.size-put_call l + 3
