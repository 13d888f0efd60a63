-- What was found so far stands unless one of the rest has the name.
use Rattle.std.proofs.Common.{◌≡◌, drop}
use Rattle.stream_type.specs.StreamType.{type_of}
use Rattle.hist_value.specs.Environment.{entry_at}
use Rattle.core_term.specs.CoreTerm.{typed_names_of}
use Rattle.delta_meaning.proofs.types.last_at.Given as goal

abbrev pub invariant-loop-entry : goal.invariant-loop-entry
invariant-loop-entry l =
    entry_at (type_of l.otherwise) (typed_names_of l.known) l.x.0 ≡ entry_at (type_of l.found) (typed_names_of (drop l.entry-index l.known)) l.x.0
