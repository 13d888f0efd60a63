-- The entries so far are copied.
use Rattle.std.proofs.Common.{◌≡◌, take}
use Rattle.hist_value.specs.Environment.{typed_entries_of}
use Rattle.delta_derive.proofs.open.copy_known.Given as goal

abbrev pub invariant-loop-entry : goal.invariant-loop-entry
invariant-loop-entry l = typed_entries_of l.copies.items ≡ typed_entries_of (take l.entry-index l.known)
