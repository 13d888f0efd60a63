-- What is given of names in lists.
use Rattle.std.specs.Prelude.{List, unwrap_or}
use Rattle.stream_type.specs.declared.ty.Ty.{Ty}
use Rattle.stream_type.specs.StreamType.{eps}
use Rattle.bunch.specs.declared.name.Name.{Name}
use Rattle.core_term.specs.CoreTerm.{typed_names_of}
use Rattle.core_term.specs.Environment.{NameTypes}
use Rattle.delta_check.specs.Scopes.{given_at}

-- the types of names; any other name counts as of type `eps`
abbrev pub type_given : List (Name × Ty) → NameTypes
type_given vars x = unwrap_or (given_at (typed_names_of vars) x) eps
