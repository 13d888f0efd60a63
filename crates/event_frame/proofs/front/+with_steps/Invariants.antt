-- The recursion goes down the slice.
use Rattle.std.proofs.Common.{length}
use Rattle.event_frame.proofs.front.+with_steps.Given as goal

abbrev pub decreases-with_steps : goal.decreases-with_steps
decreases-with_steps l = length l.parts.now
