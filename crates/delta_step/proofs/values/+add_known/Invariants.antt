-- The list gets shorter.
use Rattle.std.proofs.Common.{length}
use Rattle.delta_step.proofs.values.+add_known.Given as goal

abbrev pub decreases-add_known : goal.decreases-add_known
decreases-add_known l = length l.past.now
