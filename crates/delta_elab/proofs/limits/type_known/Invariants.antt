-- The type in the last entry is that in the last of those left, or else the one found.
use Rattle.std.proofs.Common.{◌≡◌, drop, option_map}
use Rattle.stream_type.specs.StreamType.{type_of}
use Rattle.hist_value.specs.Environment.{entry_at}
use Rattle.delta_meaning.specs.KnownTypes.{known_entries, names_known}
use Rattle.delta_elab.proofs.limits.type_known.Given as goal

abbrev pub invariant-loop-entry : goal.invariant-loop-entry
invariant-loop-entry l =
    names_known l.known l.x.0 ≡ entry_at (option_map (λ t. type_of t.now) l.found) (known_entries (drop l.entry-index l.known)) l.x.0
