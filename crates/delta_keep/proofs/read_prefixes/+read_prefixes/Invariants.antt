-- What is read so far stands before what is left. Each call goes down a level, or is nearer to one that does.
use Rattle.std.proofs.Common.{◌+◌, ◌*◌, drop}
use Rattle.stream_prefix.specs.Tree.{prefix_of}
use Rattle.kept_state.specs.KeptBytes.{prefix_bytes}
use Rattle.kept_state.specs.KeptForm.{prefix_item}
use Rattle.kept_state.specs.KeptSizes.{FitsPrefix}
use Rattle.delta_keep.proofs.ReadLists.{ReadSome}
use Rattle.delta_keep.proofs.read_prefixes.+read_prefixes.Given as goal

abbrev pub invariant-read_items-items : goal.invariant-read_items-items
invariant-read_items-items l = ReadSome prefix_item prefix_bytes prefix_of FitsPrefix l.count (drop l.initial.next l.bytes) l.counter l.items.items (drop l.next l.bytes)

abbrev pub decreases-read_prefix : goal.decreases-read_prefix
decreases-read_prefix l = 4 * l.left

abbrev pub decreases-two_prefixes : goal.decreases-two_prefixes
decreases-two_prefixes l = 4 * l.left + 1

abbrev pub decreases-read_star : goal.decreases-read_star
decreases-read_star l = 4 * l.left + 2

abbrev pub decreases-read_items : goal.decreases-read_items
decreases-read_items l = 4 * l.left + 1

abbrev pub decreases-read_end : goal.decreases-read_end
decreases-read_end l = 4 * l.left
