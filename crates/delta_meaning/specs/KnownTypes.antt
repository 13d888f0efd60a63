-- What the program's table of type names stands for.
use Rattle.std.specs.Prelude.{List, [], ◌∷◌, ℕ, Option, Some, None}
use Rattle.stream_type.specs.declared.ty.Ty.{Ty}
use Rattle.stream_type.specs.StreamType.{StreamType, type_of}
use Rattle.bunch.specs.declared.name.Name.{Name}
use Rattle.hist_value.specs.Environment.{entry_at}
use Rattle.delta_meaning.specs.TypeNames.{TypeNames}

-- the entries of a table: each name with its type
abbrev pub known_entries : List (Name × Ty) → List (ℕ × Option StreamType)
known_entries [] = []
known_entries (e ∷ es) = (e.0.0, Some (type_of e.1)) ∷ known_entries es

-- the names of types that a table holds; of two entries with one name the last counts
abbrev pub names_known : List (Name × Ty) → TypeNames
names_known es = entry_at None (known_entries es)
