-- The list gets shorter.
use Rattle.std.proofs.Common.{length}
use Rattle.delta_meaning.proofs.scope.+bound.Given as goal

abbrev pub decreases-bound : goal.decreases-bound
decreases-bound l = length l.names.now
