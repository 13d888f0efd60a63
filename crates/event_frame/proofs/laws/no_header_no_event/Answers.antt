-- The law, as its lemma states it.
use Rattle.event_frame.proofs.WholeLaws.{no_header_no_event}
use Rattle.event_frame.proofs.laws.no_header_no_event.Goals as goal

pub returns : goal.returns
returns c = no_header_no_event
