-- What scopes stand for.
use Rattle.std.specs.Prelude.{List, [], ◌∷◌, map}
use Rattle.stream_type.specs.StreamType.{type_of}
use Rattle.stream_prefix.specs.Tree.{prefix_of}
use Rattle.bunch.specs.Names.{put}
use Rattle.core_term.specs.Environment.{Environment, NameTypes}
use Rattle.delta_state.specs.StateMeaning.{types_held, prefixes_held}
use Rattle.machine_parts.specs.declared.entry.Entry.{Entry}
use Rattle.machine_parts.specs.declared.scope.Scope.{Scope}
use Rattle.machine_parts.specs.declared.scope.Scope.TheVariants.{Names, Stream', Lets'}
use Rattle.machine_parts.specs.Entry.{entry_in}

-- the types of names that were bound in turn before these
abbrev pub types_over : List Entry → NameTypes → NameTypes
types_over [] c = c
types_over (b ∷ bs) c = types_over bs (put b.name.0 (type_of b.ty) c)

-- and what comes on them
abbrev pub streams_over : List Entry → Environment → Environment
streams_over [] e = e
streams_over (b ∷ bs) e = streams_over bs (put b.name.0 (prefix_of b.prefix) e)

-- the types that a scope gives to stream names
abbrev pub types_in : Scope → NameTypes
types_in (Names es) = types_held (map entry_in es.now)
types_in (Stream' x t p r s) = put x.0 (type_of t.now) (types_in s)
types_in (Lets' bs r s) = types_over bs.now (types_in s)

-- what comes on the stream names of a scope
abbrev pub streams_in : Scope → Environment
streams_in (Names es) = prefixes_held (map entry_in es.now)
streams_in (Stream' x t p r s) = put x.0 (prefix_of p.now) (streams_in s)
streams_in (Lets' bs r s) = streams_over bs.now (streams_in s)
