-- The stream parameters of a body: in turn, and by name.
use Rattle.std.specs.Prelude.{ℕ, List, map, Option, Some, None, if◌then◌else◌}
use Rattle.stream_type.specs.declared.ty.Ty.{Ty}
use Rattle.stream_type.specs.StreamType.{StreamType, type_of}
use Rattle.bunch.specs.declared.name.Name.{Name}
use Rattle.bunch.specs.Names.{holds}
use Rattle.bunch.specs.BunchTree.{BunchTree, leaf_names}
use Rattle.core_term.specs.Agreement.{types_in}

-- the names of parameters
abbrev pub names_in : List (Name × Ty) → List ℕ
names_in ps = map (λ p. p.0.0) ps

-- the types of parameters
abbrev pub types_listed : List (Name × Ty) → List StreamType
types_listed ps = map (λ p. type_of p.1) ps

-- the type of the parameter with the name x, if there is one
abbrev pub param_type : BunchTree → ℕ → Option StreamType
param_type params x = if holds x (leaf_names params) then Some (types_in params x) else None
