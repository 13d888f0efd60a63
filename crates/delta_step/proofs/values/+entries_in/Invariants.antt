-- The list gets shorter.
use Rattle.std.proofs.Common.{length}
use Rattle.delta_step.proofs.values.+entries_in.Given as goal

abbrev pub decreases-entries_in : goal.decreases-entries_in
decreases-entries_in l = length l.past.now
