-- The law, as its lemma states it.
use Rattle.event_frame.proofs.FrameLaws.{whole_is_longest}
use Rattle.event_frame.proofs.laws.whole_is_longest.Goals as goal

pub returns : goal.returns
returns c = whole_is_longest
