-- Each call goes down, or is nearer to one that does.
use Rattle.std.proofs.Common.{◌+◌, ◌*◌, max}
use Rattle.bunch.specs.declared.bunch.Bunch.{size-Bunch}
use Rattle.kept_check.proofs.placing.+uncut.Given as goal

abbrev pub decreases-is_uncut : goal.decreases-is_uncut
decreases-is_uncut l = 2 * size-Bunch l.b.now

abbrev pub decreases-are_uncut : goal.decreases-are_uncut
decreases-are_uncut l = max (2 * size-Bunch l.a.now) (2 * size-Bunch l.b.now) + 1
