-- Each side is smaller than the whole.
use Rattle.std.proofs.Common.{◌+◌, ◌*◌, max}
use Rattle.bunch.specs.declared.bunch.Bunch.{size-Bunch}
use Rattle.delta_derive.proofs.calling.+share.Given as goal

abbrev pub decreases-share : goal.decreases-share
decreases-share l = 2 * size-Bunch l.params.now

abbrev pub decreases-share_both : goal.decreases-share_both
decreases-share_both l = max (2 * size-Bunch l.a.now) (2 * size-Bunch l.b.now) + 1
