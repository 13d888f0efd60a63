-- The law, as its lemma states it.
use Rattle.std.proofs.Common.{ap}
use Rattle.event_frame.specs.Reading.{Reading}
use Rattle.event_frame.proofs.FrameLaws.{frames_are_read}
use Rattle.event_frame.proofs.laws.frames_are_read.Goals as goal

pub returns : goal.returns
returns c v word fit = (ap (λ (r : Reading). r.word) (frames_are_read v word fit), ap (λ (r : Reading). r.ending) (frames_are_read v word fit))
