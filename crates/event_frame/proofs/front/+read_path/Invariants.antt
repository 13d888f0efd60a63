-- The recursion goes down the slice.
use Rattle.std.proofs.Common.{length}
use Rattle.event_frame.proofs.front.+read_path.Given as goal

abbrev pub decreases-read_path : goal.decreases-read_path
decreases-read_path l = length l.bytes.now
