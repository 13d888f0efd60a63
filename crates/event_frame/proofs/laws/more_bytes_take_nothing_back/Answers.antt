-- The law, as its lemma states it.
use Rattle.event_frame.proofs.MoreBytes.{more_bytes}
use Rattle.event_frame.proofs.laws.more_bytes_take_nothing_back.Goals as goal

pub returns : goal.returns
returns c = more_bytes
