-- The copies so far are equal to the entries seen so far.
use Rattle.std.proofs.Common.{◌≡◌, take, map}
use Rattle.delta_meaning.specs.Scope.{entry_of}
use Rattle.delta_meaning.proofs.scope.copy_entries.Given as goal

abbrev pub invariant-loop-entry : goal.invariant-loop-entry
invariant-loop-entry l = map entry_of l.copies.items ≡ map entry_of (take l.entry-index l.entries)
