-- What is put out so far are the items seen so far.
use Rattle.std.proofs.Common.{take}
use Rattle.kept_state.specs.KeptBytes.{bool_bytes}
use Rattle.delta_keep.specs.Putting.{Puts}
use Rattle.delta_keep.proofs.Lists.{items_bytes}
use Rattle.delta_keep.proofs.put_parts.put_marks.Given as goal

abbrev pub invariant-loop-mark : goal.invariant-loop-mark
invariant-loop-mark l = Puts l.initial.out l.out (items_bytes bool_bytes (λ b. b) (take l.mark-index l.marks))
