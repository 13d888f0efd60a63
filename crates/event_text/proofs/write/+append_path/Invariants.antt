-- The recursion goes down the slice.
use Rattle.std.proofs.Common.{length}
use Rattle.event_text.proofs.write.+append_path.Given as goal

abbrev pub decreases-append_path : goal.decreases-append_path
decreases-append_path l = length l.path.now
