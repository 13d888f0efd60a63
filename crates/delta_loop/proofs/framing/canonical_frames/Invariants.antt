use Rattle.std.proofs.Common.{◌≡◌, take}
use Rattle.event_frame.specs.Frames.{frames}
use Rattle.delta_loop.proofs.framing.canonical_frames.Given as goal

abbrev pub invariant-loop-event : goal.invariant-loop-event
invariant-loop-event l = l.bytes.items ≡ frames l.version (take l.event-index l.event-items)
