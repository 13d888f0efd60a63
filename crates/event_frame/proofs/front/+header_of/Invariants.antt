-- The recursion goes down the slice.
use Rattle.std.proofs.Common.{length}
use Rattle.event_frame.proofs.front.+header_of.Given as goal

abbrev pub decreases-header_of : goal.decreases-header_of
decreases-header_of l = length l.bytes.now
