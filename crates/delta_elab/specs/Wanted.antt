-- Expected types.
use Rattle.std.specs.Prelude.{Option, Some, None}
use Rattle.std.specs.Borrow.{Bor}
use Rattle.stream_type.specs.declared.ty.Ty.{Ty}
use Rattle.stream_type.specs.StreamType.{StreamType, type_of, eps}

-- an expected type as the program keeps it: none for `eps`
abbrev pub wanted_of : Option (Bor Ty) → StreamType
wanted_of None = eps
wanted_of (Some t) = type_of t.now
