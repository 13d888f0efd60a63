-- The recursion goes down the slice.
use Rattle.std.proofs.Common.{length}
use Rattle.event_frame.proofs.write.+write_packed.Given as goal

abbrev pub decreases-write_packed : goal.decreases-write_packed
decreases-write_packed l = length l.path.now
