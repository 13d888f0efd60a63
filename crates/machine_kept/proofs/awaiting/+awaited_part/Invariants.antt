-- Each call goes down, or is nearer to one that does.
use Rattle.std.proofs.Common.{◌+◌, ◌*◌, max}
use Rattle.bunch.specs.declared.bunch.Bunch.{size-Bunch}
use Rattle.machine_kept.proofs.awaiting.+awaited_part.Given as goal

abbrev pub decreases-awaited_part : goal.decreases-awaited_part
decreases-awaited_part l = 2 * size-Bunch l.b.now

abbrev pub decreases-both_parts : goal.decreases-both_parts
decreases-both_parts l = max (2 * size-Bunch l.a.now) (2 * size-Bunch l.b.now) + 1
