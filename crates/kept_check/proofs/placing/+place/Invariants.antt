-- Each call goes down, or is nearer to one that does.
use Rattle.std.proofs.Common.{◌+◌, ◌*◌, max}
use Rattle.bunch.specs.declared.bunch.Bunch.{size-Bunch}
use Rattle.kept_check.proofs.placing.+place.Given as goal

abbrev pub decreases-is_place : goal.decreases-is_place
decreases-is_place l = 3 * size-Bunch l.b.now

abbrev pub decreases-are_places : goal.decreases-are_places
decreases-are_places l = max (3 * size-Bunch l.a.now) (3 * size-Bunch l.b.now) + 1

abbrev pub decreases-is_before : goal.decreases-is_before
decreases-is_before l = max (3 * size-Bunch l.a.now) (3 * size-Bunch l.b.now) + 1

abbrev pub decreases-is_past : goal.decreases-is_past
decreases-is_past l = max (3 * size-Bunch l.a.now) (3 * size-Bunch l.b.now) + 2
