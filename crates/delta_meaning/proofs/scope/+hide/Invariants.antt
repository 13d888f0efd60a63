-- The list gets shorter.
use Rattle.std.proofs.Common.{length}
use Rattle.delta_meaning.proofs.scope.+hide.Given as goal

abbrev pub decreases-hide : goal.decreases-hide
decreases-hide l = length l.params.now
