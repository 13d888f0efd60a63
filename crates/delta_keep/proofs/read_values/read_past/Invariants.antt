-- What is read so far stands before what is left.
use Rattle.std.proofs.Common.{drop}
use Rattle.kept_state.specs.KeptBytes.{known_bytes}
use Rattle.kept_state.specs.KeptForm.{known_item}
use Rattle.kept_state.specs.KeptSizes.{FitsKnown}
use Rattle.delta_keep.specs.KeptView.{known_of}
use Rattle.delta_keep.proofs.ReadLists.{ReadSome}
use Rattle.delta_keep.proofs.read_values.read_past.Given as goal

abbrev pub invariant-items : goal.invariant-items
invariant-items l = ReadSome known_item known_bytes known_of FitsKnown l.count (drop l.initial.next l.bytes) l.counter l.items.items (drop l.next l.bytes)
