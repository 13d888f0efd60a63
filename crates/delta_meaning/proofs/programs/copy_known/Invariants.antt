-- The copies so far are equal to the entries seen so far.
use Rattle.std.proofs.Common.{◌≡◌, take}
use Rattle.core_term.specs.CoreTerm.{typed_names_of}
use Rattle.delta_meaning.proofs.programs.copy_known.Given as goal

abbrev pub invariant-loop-entry : goal.invariant-loop-entry
invariant-loop-entry l = typed_names_of l.copies.items ≡ typed_names_of (take l.entry-index l.known)
