-- The steps from here on stand in front.
use Rattle.std.proofs.Common.{◌≤◌, length, drop}
use Rattle.event_frame.specs.Front.{IsBehind}
use Rattle.event_frame.proofs.front.behind_bytes.Given as goal

abbrev pub invariant-loop-i : goal.invariant-loop-i
invariant-loop-i l = record { within : l.i ≤ length l.steps; so_far : IsBehind (drop l.i l.steps) l.fn.event l.longer }

abbrev pub decreases-loop-i : goal.decreases-loop-i
decreases-loop-i l = l.i
