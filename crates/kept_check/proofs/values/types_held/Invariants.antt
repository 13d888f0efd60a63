-- The types so far are those of the entries seen.
use Rattle.std.proofs.Common.{◌≡◌, take, map}
use Rattle.stream_type.specs.StreamType.{type_of}
use Rattle.core_term.specs.CoreTerm.{typed_names_of}
use Rattle.kept_check.proofs.values.types_held.Given as goal

abbrev pub invariant-loop-entry : goal.invariant-loop-entry
invariant-loop-entry l = typed_names_of l.types.items ≡ map (λ e. (e.name.0, type_of e.ty.value)) (take l.entry-index l.held)
