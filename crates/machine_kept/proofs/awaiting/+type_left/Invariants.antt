-- The list gets shorter.
use Rattle.std.proofs.Common.{length}
use Rattle.machine_kept.proofs.awaiting.+type_left.Given as goal

abbrev pub decreases-type_left : goal.decreases-type_left
decreases-type_left l = length l.params.now
