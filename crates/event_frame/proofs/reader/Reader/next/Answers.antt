-- The header's step and then a frame's.
use Rattle.event_frame.proofs.Readers.{next_event, next_stays}
use Rattle.event_frame.proofs.reader.Reader.next.Goals as goal

pub returns-in-Ok-Some-clause-event : goal.returns-in-Ok-Some-clause-event
returns-in-Ok-Some-clause-event c = next_event c.take_frame.result c.args.self.now _ _ c.take_header.ensures.stays c.take_frame.ensures.event

pub returns-in-Ok-Some-clause-stays : goal.returns-in-Ok-Some-clause-stays
returns-in-Ok-Some-clause-stays c = next_stays c.take_frame.result c.args.self.now _ _ c.take_header.ensures.stays c.take_frame.ensures.stays
