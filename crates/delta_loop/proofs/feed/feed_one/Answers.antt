use Rattle.std.proofs.Common.{Err, ap, refl, ◌∙◌, sym}
use Rattle.delta_loop.proofs.Feeding.{serves_more, ended_in_write, ended_memory_in_write, ended_memory, ended_refused, ended_costly, ended_deep}
use Rattle.delta_loop.proofs.feed.feed_one.Goals as goal

pub returns-in-Ok-send-clause-stepped : goal.returns-in-Ok-send-clause-stepped
returns-in-Ok-send-clause-stepped g c P word before = (c.in-Ok.ensures.ok P word before).1

pub returns-in-Ok-send-clause-ok : goal.returns-in-Ok-send-clause-ok
returns-in-Ok-send-clause-ok g c P start input word before =
    let stepped = c.in-Ok.ensures.ok P word before.state in
    let sent = c.in-Ok-send.ensures.sent in
    serves_more g.M.Stepper.stands P start _ _ input word before _ _ _ _ sent.0 sent.1 stepped.0 stepped.1 stepped.2 (sym c.deref.ensures.value ∙ sent.2) (sent.3 refl) sent.4

pub returns-in-Err-Memory-send-clause-err : goal.returns-in-Err-Memory-send-clause-err
returns-in-Err-Memory-send-clause-err g c P start input word more before is at =
    let stepped = c.in-Ok.ensures.ok P word before.state in
    let sent = c.in-Err-Memory-send.ensures.sent in
    ended_memory_in_write g.M.Stepper.stands P start _ _ input word before _ _ more _ sent.0 sent.1 is stepped.0 stepped.2 (sym c.deref.ensures.value ∙ sent.2) sent.4

pub returns-in-Ok-clause-err : goal.returns-in-Ok-clause-err
returns-in-Ok-clause-err g c P start input word more before is at =
    let stepped = c.in-Ok.ensures.ok P word before.state in
    let sent = c.send.ensures.sent in
    ended_in_write g.M.Stepper.stands P start _ _ input word before _ _ more _ sent.0 sent.1 is stepped.0 stepped.2 (sym c.deref.ensures.value ∙ sent.2) sent.4

pub returns-in-Err-Memory-clause-err : goal.returns-in-Err-Memory-clause-err
returns-in-Err-Memory-clause-err g c P start input word more before is at =
    ended_memory g.M.Stepper.stands P start _ _ input word before _ more is

pub returns-in-Err-Refused-clause-err : goal.returns-in-Err-Refused-clause-err
returns-in-Err-Refused-clause-err g c P start input word more before is at =
    ended_refused g.M.Stepper.stands P start _ _ input word before _ _ more _ is at
    (c.step.ensures.refused c.in-Err-Refused.fault (c.in-Err-Refused.is ∙ ap Err c.in-Err-Refused.field-0-is) P word before.state)

pub returns-in-Err-Budget-clause-err : goal.returns-in-Err-Budget-clause-err
returns-in-Err-Budget-clause-err g c P start input word more before is at =
    let stopped = c.step.ensures.costly (c.in-Err-Budget.is ∙ ap Err c.in-Err-Budget.field-0-is) P word before.state in
    ended_costly g.M.Stepper.stands P start _ _ input word before _ _ more is at stopped.0 stopped.1

pub returns-clause-err : goal.returns-clause-err
returns-clause-err g c P start input word more before is at =
    let stopped = c.step.ensures.deep (c.in-Err-Deep.is ∙ ap Err c.in-Err-Deep.field-0-is) P word before.state in
    ended_deep g.M.Stepper.stands P start _ _ input word before _ _ more is at stopped.0 stopped.1
