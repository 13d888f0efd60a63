-- The entries so far are those of the names and the types seen so far.
use Rattle.std.proofs.Common.{◌≡◌, take, map}
use Rattle.stream_type.specs.StreamType.{type_of}
use Rattle.bunch.specs.Names.{numbers_of}
use Rattle.core_term.specs.Params.{names_in, types_listed}
use Rattle.kept_check.proofs.loading.types_left.Given as goal

abbrev pub invariant-loop-i : goal.invariant-loop-i
invariant-loop-i l = record { names : names_in l.types.items ≡ numbers_of (take l.i l.names); types : types_listed l.types.items ≡ map type_of (take l.i l.ins) }
