-- The last line: none, written, written in part, or refused.
use Rattle.std.proofs.Common.{rules, subst, sym, true}
use Rattle.delta_end.specs.declared.end.InputFault.{InputFault}
use Rattle.delta_end.specs.declared.end.End.TheVariants.{Input}
use Rattle.command_text.specs.Conversion.{Ended, frames_of_lines}
use Rattle.command_text.proofs.Feeding.{ended_done, ended_badly, ended_written, ended_in_part}
use Rattle.command_text.proofs.frame_writer.finish.Goals as goal

pub returns-in-Ok-None-clause-ended : goal.returns-in-Ok-None-clause-ended
returns-in-Ok-None-clause-ended g c start input feeds =
    ended_done c.args.version start _ _ input feeds (rw c.in-Ok-None.field-0-is at c.in-Ok-None.ensures.last)

pub returns-in-Ok-clause-ended : goal.returns-in-Ok-clause-ended
returns-in-Ok-clause-ended g c start input feeds =
    let s = c.in-Ok.ensures.sent in
    ended_written c.args.version start _ _ input feeds _ _ _ s.0 s.1 (rw c.in-Ok-Some.field-0-is at c.in-Ok-Some.ensures.last) s.2 s.4 (s.3 (search rules))

pub returns-in-Err-send_event-clause-ended : goal.returns-in-Err-send_event-clause-ended
returns-in-Err-send_event-clause-ended g c start input feeds =
    let s = c.in-Err-send_event.ensures.sent in
    ended_in_part c.args.version start _ _ input feeds _ _ _ s.0 s.1 (rw c.in-Ok-Some.field-0-is at c.in-Ok-Some.ensures.last) s.2 s.4 c.in-Err-send_event.end c.in-Err-send_event.ensures.ran

pub returns-in-Err-clause-ended : goal.returns-in-Err-clause-ended
returns-in-Err-clause-ended g c start input feeds =
    subst (λ (fault : InputFault). Ended (frames_of_lines c.args.version) start (g.L.Link.log c.args.link.now) input true (Input fault)) (sym c.input_fault.ensures)
    (ended_badly c.args.version start _ _ input feeds c.in-Err.refusal c.place.result c.place.ensures c.in-Err.ensures.last)
