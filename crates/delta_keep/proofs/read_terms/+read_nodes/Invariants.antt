-- What is read so far stands before what is left. Each call goes down a level, or is nearer to one that does.
use Rattle.std.proofs.Common.{◌+◌, ◌*◌, drop}
use Rattle.kept_state.specs.KeptForm.{node_item}
use Rattle.delta_keep.specs.Written.{written_node}
use Rattle.delta_keep.specs.Reads.{FitsNode}
use Rattle.delta_keep.proofs.ReadLists.{ReadSome}
use Rattle.delta_keep.proofs.read_terms.+read_nodes.Given as goal

abbrev pub invariant-read_nodes-items : goal.invariant-read_nodes-items
invariant-read_nodes-items l = ReadSome node_item written_node (λ n. n) FitsNode l.count (drop l.initial.next l.bytes) l.counter l.items.items (drop l.next l.bytes)

abbrev pub decreases-read_term : goal.decreases-read_term
decreases-read_term l = 6 * l.left

abbrev pub decreases-read_node : goal.decreases-read_node
decreases-read_node l = 6 * l.left + 1

abbrev pub decreases-two_nodes : goal.decreases-two_nodes
decreases-two_nodes l = 6 * l.left + 2

abbrev pub decreases-names_and_node : goal.decreases-names_and_node
decreases-names_and_node l = 6 * l.left + 2

abbrev pub decreases-read_let : goal.decreases-read_let
decreases-read_let l = 6 * l.left + 3

abbrev pub decreases-read_case_sum : goal.decreases-read_case_sum
decreases-read_case_sum l = 6 * l.left + 2

abbrev pub decreases-read_case_star : goal.decreases-read_case_star
decreases-read_case_star l = 6 * l.left + 2

abbrev pub decreases-read_wait : goal.decreases-read_wait
decreases-read_wait l = 6 * l.left + 2

abbrev pub decreases-read_call : goal.decreases-read_call
decreases-read_call l = 6 * l.left + 3

abbrev pub decreases-read_nodes : goal.decreases-read_nodes
decreases-read_nodes l = 6 * l.left + 2
