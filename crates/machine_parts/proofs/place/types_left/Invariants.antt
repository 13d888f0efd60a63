-- The types so far are those of the entries seen so far.
use Rattle.std.proofs.Common.{◌≡◌, take, map}
use Rattle.stream_type.specs.StreamType.{type_of}
use Rattle.delta_state.specs.StateTree.{held_names}
use Rattle.delta_state.specs.StateMeaning.{types_held}
use Rattle.machine_parts.specs.Entry.{entry_in}
use Rattle.machine_parts.proofs.place.types_left.Given as goal

abbrev pub invariant-loop-entry : goal.invariant-loop-entry
invariant-loop-entry l = map type_of l.types.items ≡ map (types_held (map entry_in l.entries)) (held_names (map entry_in (take l.entry-index l.entries)))
