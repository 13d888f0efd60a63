-- What is read so far stands before what is left. Each call goes down a level, or is nearer to one that does.
use Rattle.std.proofs.Common.{◌+◌, ◌*◌, drop}
use Rattle.kept_state.specs.KeptForm.{argument_item}
use Rattle.delta_keep.specs.Written.{written_argument}
use Rattle.delta_keep.specs.Reads.{FitsArgument}
use Rattle.delta_keep.proofs.ReadLists.{ReadSome}
use Rattle.delta_keep.proofs.read_states.+read_states.Given as goal

abbrev pub invariant-read_arguments-items : goal.invariant-read_arguments-items
invariant-read_arguments-items l = ReadSome argument_item written_argument (λ a. a) FitsArgument l.count (drop l.initial.next l.bytes) l.counter l.items.items (drop l.next l.bytes)

abbrev pub decreases-read_state : goal.decreases-read_state
decreases-read_state l = 6 * l.left

abbrev pub decreases-two_states : goal.decreases-two_states
decreases-two_states l = 6 * l.left + 1

abbrev pub decreases-names_and_state : goal.decreases-names_and_state
decreases-names_and_state l = 6 * l.left + 1

abbrev pub decreases-read_cat : goal.decreases-read_cat
decreases-read_cat l = 6 * l.left + 1

abbrev pub decreases-read_let : goal.decreases-read_let
decreases-read_let l = 6 * l.left + 2

abbrev pub decreases-read_argument : goal.decreases-read_argument
decreases-read_argument l = 6 * l.left + 1

abbrev pub decreases-read_arguments : goal.decreases-read_arguments
decreases-read_arguments l = 6 * l.left + 2

abbrev pub decreases-read_frame : goal.decreases-read_frame
decreases-read_frame l = 6 * l.left + 3
