-- The law, as its lemma states it.
use Rattle.event_frame.proofs.FrameLaws.{no_frame_begins_another}
use Rattle.event_frame.proofs.laws.no_frame_begins_another.Goals as goal

pub returns : goal.returns
returns c = no_frame_begins_another
