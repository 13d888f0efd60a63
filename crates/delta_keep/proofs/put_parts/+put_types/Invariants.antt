-- Each call goes down, or is nearer to one that does.
use Rattle.std.proofs.Common.{◌+◌, ◌*◌, max}
use Rattle.stream_type.specs.declared.ty.Ty.{size-Ty}
use Rattle.delta_keep.proofs.put_parts.+put_types.Given as goal

abbrev pub decreases-put_type : goal.decreases-put_type
decreases-put_type l = 2 * size-Ty l.t.now

abbrev pub decreases-put_two_types : goal.decreases-put_two_types
decreases-put_two_types l = max (2 * size-Ty l.a.now) (2 * size-Ty l.b.now) + 1
