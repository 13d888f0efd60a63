-- What is read so far stands before what is left.
use Rattle.std.proofs.Common.{drop}
use Rattle.std.specs.Prelude.{⊤}
use Rattle.stream_type.specs.StreamType.{type_of}
use Rattle.kept_state.specs.KeptBytes.{type_bytes}
use Rattle.kept_state.specs.KeptForm.{type_item}
use Rattle.delta_keep.proofs.ReadLists.{ReadSome}
use Rattle.delta_keep.proofs.read_types.read_types.Given as goal

abbrev pub invariant-items : goal.invariant-items
invariant-items l = ReadSome type_item type_bytes type_of (λ t. ⊤) l.count (drop l.initial.next l.bytes) l.counter l.items.items (drop l.next l.bytes)
