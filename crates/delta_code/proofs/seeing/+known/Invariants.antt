-- The list gets shorter.
use Rattle.std.proofs.Common.{length}
use Rattle.delta_code.proofs.seeing.+known.Given as goal

abbrev pub decreases-known : goal.decreases-known
decreases-known l = length l.past.now
