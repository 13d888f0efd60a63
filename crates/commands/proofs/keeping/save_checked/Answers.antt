-- What is left is that of the run, whose machine is of the program that it began with.
use Rattle.std.proofs.Common.{sym, refl, subst, ap, Err, ◌∙◌}
use Rattle.event_frame.specs.Reading.{whole}
use Rattle.core_term.specs.CoreTerm.{core_of}
use Rattle.delta_end.specs.declared.end.End.TheVariants.{Memory}
use Rattle.delta_loop.specs.Stopping.{StopsFor}
use Rattle.delta_output.specs.LoopMeaning.{meaning_of}
use Rattle.delta_session.specs.Programs.{IsOfSameProgram, one_shot}
use Rattle.delta_session.proofs.Feeding.{of_same}
use Rattle.delta_runner.proofs.Stepping.{ran_not}
use Rattle.commands.specs.Leaving.{Way, from_start}
use Rattle.commands.proofs.Leaving.{saves_nothing}
use Rattle.commands.proofs.keeping.save_checked.Goals as goal

pub leave_program-left-requires-clause-stands : goal.leave_program-left-requires-clause-stands
leave_program-left-requires-clause-stands g c well =
    let P = meaning_of c.args.version c.args.budget (one_shot (core_of c.args.c.now)) in
    let begun = rw (sym c.deref.ensures.value) at c.in-Ok.ensures.begun in
    let to = c.run_machine-end.ensures.ran P begun in
    (P, whole to.ran.input, to.state well)

pub returns-in-Ok-clause-saved : goal.returns-in-Ok-clause-saved
returns-in-Ok-clause-saved g c =
    let core = core_of c.args.c.now in
    let begun = rw (sym c.deref.ensures.value) at c.in-Ok.ensures.begun in
    c.leave_program-left.ensures.left (meaning_of c.args.version c.args.budget (one_shot core)) core _ _ _ _
    (of_same g.M.Machine.seen (IsOfSameProgram g.M.Machine.seen) core (λ m n same. same core) c.in-Ok.runner.session c.run_machine-end.new.machine.session c.run_machine-end.ensures.program c.in-Ok.ensures.program)
    (c.run_machine-end.ensures.ran (meaning_of c.args.version c.args.budget (one_shot core)) begun)

pub returns-in-Err-Memory-clause-saved : goal.returns-in-Err-Memory-clause-saved
returns-in-Err-Memory-clause-saved g c =
    let core = core_of c.args.c.now in
    let log = g.L.Link.log c.args.link.now in
    let left = g.L.Link.left c.args.link.now in
    let w : Way = record { meaning = meaning_of c.args.version c.args.budget (one_shot core); origin = from_start core; old = log; new = log; left0 = left; left1 = left } in
    saves_nothing w c.args.name.now (g.S.Shelf.holds c.args.shelf.now) Memory tt (λ well. well) (ran_not _ log left)

pub returns-in-Err-Stopped-clause-saved : goal.returns-in-Err-Stopped-clause-saved
returns-in-Err-Stopped-clause-saved g c =
    let core = core_of c.args.c.now in
    let P = meaning_of c.args.version c.args.budget (one_shot core) in
    let w : Way = record {
      meaning = P;
      origin = from_start core;
      old = g.L.Link.log c.args.link.now;
      new = g.L.Link.log c.stop_first.new.link;
      left0 = g.L.Link.left c.args.link.now;
      left1 = g.L.Link.left c.stop_first.new.link;
    } in
    saves_nothing w c.args.name.now (g.S.Shelf.holds c.args.shelf.now) c.stop_first.result c.stop_first.ensures.end c.stop_first.ensures.ill
    (c.stop_first.ensures.ran P refl (subst (StopsFor P) (sym c.in-Err-Stopped.why-is) (c.begin.ensures.stopped c.in-Err-Stopped.why (c.in-Err-Stopped.is ∙ ap Err c.in-Err-Stopped.field-0-is))))
