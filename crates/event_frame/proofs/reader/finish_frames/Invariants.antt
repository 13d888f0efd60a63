-- How the bytes end stays the same while frames are passed.
use Rattle.std.proofs.Common.{◌≡◌, ◌+◌, length}
use Rattle.event_frame.specs.Reading.{Between, reading_from}
use Rattle.event_frame.proofs.reader.finish_frames.Given as goal

abbrev pub invariant-frames : goal.invariant-frames
invariant-frames l =
    ((reading_from (Between l.version) l.place l.rest).ending ≡ (reading_from (Between l.version) l.at l.bytes).ending) × (l.place + length l.rest ≡ l.at + length l.bytes)

abbrev pub decreases-frames : goal.decreases-frames
decreases-frames l = length l.rest
