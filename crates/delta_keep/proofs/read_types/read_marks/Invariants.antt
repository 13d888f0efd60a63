-- What is read so far stands before what is left.
use Rattle.std.proofs.Common.{drop}
use Rattle.std.specs.Prelude.{⊤}
use Rattle.kept_state.specs.KeptBytes.{bool_bytes}
use Rattle.kept_state.specs.KeptForm.{bool_item}
use Rattle.delta_keep.proofs.ReadLists.{ReadSome}
use Rattle.delta_keep.proofs.read_types.read_marks.Given as goal

abbrev pub invariant-items : goal.invariant-items
invariant-items l = ReadSome bool_item bool_bytes (λ b. b) (λ b. ⊤) l.count (drop l.initial.next l.bytes) l.counter l.items.items (drop l.next l.bytes)
