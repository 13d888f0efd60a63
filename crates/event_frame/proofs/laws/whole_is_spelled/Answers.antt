-- The law, as its lemma states it.
use Rattle.event_frame.proofs.WholeLaws.{whole_is_spelled}
use Rattle.event_frame.proofs.laws.whole_is_spelled.Goals as goal

pub returns : goal.returns
returns c = whole_is_spelled
