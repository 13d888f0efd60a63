-- What is put out so far are the items seen so far.
use Rattle.std.proofs.Common.{take}
use Rattle.stream_type.specs.StreamType.{type_of}
use Rattle.kept_state.specs.KeptBytes.{type_bytes}
use Rattle.delta_keep.specs.Putting.{Puts}
use Rattle.delta_keep.proofs.Lists.{items_bytes}
use Rattle.delta_keep.proofs.put_parts.put_types.Given as goal

abbrev pub invariant-loop-t : goal.invariant-loop-t
invariant-loop-t l = Puts l.initial.out l.out (items_bytes type_bytes type_of (take l.t-index l.types))
