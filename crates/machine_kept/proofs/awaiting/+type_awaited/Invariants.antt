-- Each call goes down, or is nearer to one that does.
use Rattle.std.proofs.Common.{◌+◌, ◌*◌, max}
use Rattle.machine_parts.specs.declared.awaited.Awaited.{size-Awaited}
use Rattle.machine_kept.proofs.awaiting.+type_awaited.Given as goal

abbrev pub decreases-type_awaited : goal.decreases-type_awaited
decreases-type_awaited l = 2 * size-Awaited l.a.now

abbrev pub decreases-both_types : goal.decreases-both_types
decreases-both_types l = max (2 * size-Awaited l.a.now) (2 * size-Awaited l.b.now) + 1
