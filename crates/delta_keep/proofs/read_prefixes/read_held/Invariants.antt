-- What is read so far stands before what is left.
use Rattle.std.proofs.Common.{drop}
use Rattle.kept_state.specs.KeptBytes.{held_name_bytes}
use Rattle.kept_state.specs.KeptForm.{held_item}
use Rattle.kept_state.specs.KeptSizes.{FitsHeldName}
use Rattle.delta_keep.specs.KeptView.{held_of}
use Rattle.delta_keep.proofs.ReadLists.{ReadSome}
use Rattle.delta_keep.proofs.read_prefixes.read_held.Given as goal

abbrev pub invariant-items : goal.invariant-items
invariant-items l = ReadSome held_item held_name_bytes held_of FitsHeldName l.count (drop l.initial.next l.bytes) l.counter l.items.items (drop l.next l.bytes)
