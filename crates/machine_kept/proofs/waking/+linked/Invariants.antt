-- The list gets shorter.
use Rattle.std.proofs.Common.{length}
use Rattle.machine_kept.proofs.waking.+linked.Given as goal

abbrev pub decreases-linked : goal.decreases-linked
decreases-linked l = length l.past.now
