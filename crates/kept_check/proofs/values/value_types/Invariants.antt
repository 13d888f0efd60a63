-- The types so far are those of the values seen.
use Rattle.std.proofs.Common.{◌≡◌, take, map}
use Rattle.stream_type.specs.StreamType.{type_of}
use Rattle.hist_value.specs.HistType.{past}
use Rattle.delta_check.specs.Scopes.{historical_of}
use Rattle.kept_check.proofs.values.value_types.Given as goal

abbrev pub invariant-loop-entry : goal.invariant-loop-entry
invariant-loop-entry l = historical_of l.types.items ≡ map (λ e. (e.name.0, past (type_of e.ty.value))) (take l.entry-index l.known)
