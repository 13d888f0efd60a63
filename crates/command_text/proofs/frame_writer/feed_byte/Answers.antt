-- A byte that ends the line of an event, want of memory, and a byte that can't stand in its place.
use Rattle.std.proofs.Common.{◌∷◌, rules}
use Rattle.command_text.proofs.Feeding.{feeds_event, ended_sending, ended_memory, on_ok, if_err}
use Rattle.command_text.proofs.frame_writer.feed_byte.Goals as goal

pub returns-in-Ok-Some-clause-ok : goal.returns-in-Ok-Some-clause-ok
returns-in-Ok-Some-clause-ok g c =
    let step = (rw c.in-Ok-Some.field-0-is at c.in-Ok-Some.ensures.read) in
    let s = c.send_event.ensures.sent in
    on_ok c.send_event.result _ (λ ok start input front feeds. feeds_event c.args.version start _ _ _ _ input front c.args.byte _ s.0 s.1 feeds step s.2 (s.3 ok) s.4)

pub returns-in-Ok-Some-clause-err : goal.returns-in-Ok-Some-clause-err
returns-in-Ok-Some-clause-err g c =
    let step = (rw c.in-Ok-Some.field-0-is at c.in-Ok-Some.ensures.read) in
    let s = c.send_event.ensures.sent in
    if_err c.send_event.result _ _ c.send_event.ensures.ran
    (λ end of start front more feeds. ended_sending c.args.version start _ _ _ _ front more c.args.byte _ s.0 s.1 end feeds step s.2 s.4 of)

pub returns-in-Err-Memory-clause-err : goal.returns-in-Err-Memory-clause-err
returns-in-Err-Memory-clause-err g c start front more feeds = ended_memory c.args.version start _ _ front (c.args.byte ∷ more) feeds

pub returns-in-Err-Refused-clause-err : goal.returns-in-Err-Refused-clause-err
returns-in-Err-Refused-clause-err g c = search rules
