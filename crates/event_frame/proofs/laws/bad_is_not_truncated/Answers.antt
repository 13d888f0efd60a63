-- The law, as its lemma states it.
use Rattle.event_frame.proofs.MoreBytes.{bad_is_not_truncated}
use Rattle.event_frame.proofs.laws.bad_is_not_truncated.Goals as goal

pub returns : goal.returns
returns c = bad_is_not_truncated
