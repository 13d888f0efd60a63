-- What an entry stands for.
use Rattle.stream_type.specs.StreamType.{type_of}
use Rattle.stream_prefix.specs.Tree.{prefix_of}
use Rattle.delta_state.specs.StateTree.{HeldName}
use Rattle.machine_parts.specs.declared.entry.Entry.{Entry}

-- what came on a name, with its type before
abbrev pub entry_in : Entry → HeldName
entry_in e = record { name = e.name.0; type = type_of e.ty; prefix = prefix_of e.prefix }
