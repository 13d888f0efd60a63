-- What was found so far stands unless one of the rest has the name.
use Rattle.std.proofs.Common.{◌≡◌, drop}
use Rattle.hist_value.specs.HistValue.{hist_value_of}
use Rattle.hist_value.specs.Environment.{entry_at, entries_of}
use Rattle.hist_value.proofs.scope.last_at.Given as goal

abbrev pub invariant-loop-entry : goal.invariant-loop-entry
invariant-loop-entry l =
    entry_at (hist_value_of l.otherwise) (entries_of l.entries) l.x.0 ≡ entry_at (hist_value_of l.found) (entries_of (drop l.entry-index l.entries)) l.x.0
