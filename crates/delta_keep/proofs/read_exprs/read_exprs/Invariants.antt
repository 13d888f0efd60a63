-- What is read so far stands before what is left.
use Rattle.std.proofs.Common.{drop}
use Rattle.hist_value.specs.HistExpr.{expr_of}
use Rattle.kept_state.specs.KeptBytes.{expr_bytes}
use Rattle.kept_state.specs.KeptForm.{expr_item}
use Rattle.kept_state.specs.KeptSizes.{FitsExpr}
use Rattle.delta_keep.proofs.ReadLists.{ReadSome}
use Rattle.delta_keep.proofs.read_exprs.read_exprs.Given as goal

abbrev pub invariant-items : goal.invariant-items
invariant-items l = ReadSome expr_item expr_bytes expr_of FitsExpr l.count (drop l.initial.next l.bytes) l.counter l.items.items (drop l.next l.bytes)
