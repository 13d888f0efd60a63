-- What is read so far stands before what is left. Each call goes down a level, or is nearer to one that does.
use Rattle.std.proofs.Common.{◌+◌, ◌*◌, drop}
use Rattle.hist_value.specs.HistValue.{hist_value_of}
use Rattle.kept_state.specs.KeptBytes.{value_bytes}
use Rattle.kept_state.specs.KeptForm.{value_item}
use Rattle.kept_state.specs.KeptSizes.{FitsValue}
use Rattle.delta_keep.proofs.ReadLists.{ReadSome}
use Rattle.delta_keep.proofs.read_values.+read_values.Given as goal

abbrev pub invariant-read_values-items : goal.invariant-read_values-items
invariant-read_values-items l = ReadSome value_item value_bytes hist_value_of FitsValue l.count (drop l.initial.next l.bytes) l.counter l.items.items (drop l.next l.bytes)

abbrev pub decreases-read_value : goal.decreases-read_value
decreases-read_value l = 4 * l.left

abbrev pub decreases-two_values : goal.decreases-two_values
decreases-two_values l = 4 * l.left + 1

abbrev pub decreases-read_list : goal.decreases-read_list
decreases-read_list l = 4 * l.left + 2

abbrev pub decreases-read_values : goal.decreases-read_values
decreases-read_values l = 4 * l.left + 1
