-- The recursion goes down the slice.
use Rattle.std.proofs.Common.{length}
use Rattle.event_frame.proofs.front.+holds_steps.Given as goal

abbrev pub decreases-holds_steps : goal.decreases-holds_steps
decreases-holds_steps l = length l.parts.now
