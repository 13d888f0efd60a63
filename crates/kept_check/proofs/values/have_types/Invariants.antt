-- Each value seen is of its type.
use Rattle.std.proofs.Common.{take}
use Rattle.std.specs.List.{All}
use Rattle.hist_value.specs.HistType.{past}
use Rattle.hist_value.specs.HistValue.{HasType}
use Rattle.delta_keep.specs.KeptView.{known_of}
use Rattle.kept_check.proofs.values.have_types.Given as goal

abbrev pub invariant-loop-entry : goal.invariant-loop-entry
invariant-loop-entry l = All (λ e. HasType (past (known_of e).type) (known_of e).value) (take l.entry-index l.known)
