-- The list gets shorter.
use Rattle.std.proofs.Common.{length}
use Rattle.delta_code.proofs.entering.+add_bound.Given as goal

abbrev pub decreases-add_bound : goal.decreases-add_bound
decreases-add_bound l = length l.params.now
