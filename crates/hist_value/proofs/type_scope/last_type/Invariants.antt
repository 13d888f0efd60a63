-- What was found so far stands unless one of the rest has the name.
use Rattle.std.proofs.Common.{◌≡◌, drop}
use Rattle.std.specs.Prelude.{option_map}
use Rattle.hist_value.specs.HistType.{hist_type_of}
use Rattle.hist_value.specs.Environment.{entry_at, types_of, typed_entries_of}
use Rattle.hist_value.proofs.type_scope.last_type.Given as goal

abbrev pub invariant-loop-entry : goal.invariant-loop-entry
invariant-loop-entry l =
    types_of l.entries l.x.0 ≡ entry_at (option_map (λ t. hist_type_of t.now) l.found) (typed_entries_of (drop l.entry-index l.entries)) l.x.0
