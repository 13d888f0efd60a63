-- What is left is that of the run, whose machine goes on from the state that it began with.
use Rattle.std.proofs.Common.{refl}
use Rattle.event_frame.specs.Reading.{whole}
use Rattle.core_term.specs.CoreTerm.{core_of}
use Rattle.delta_keep.specs.KeptView.{kept_of}
use Rattle.delta_end.specs.declared.end.End.TheVariants.{Memory}
use Rattle.delta_loop.specs.Answer.{ReadsWell}
use Rattle.delta_loop.proofs.Returning.{adds_none, unread}
use Rattle.delta_runner.proofs.Stepping.{ran_not}
use Rattle.delta_runner.specs.KeptOneShot.{meaning_since}
use Rattle.delta_runner.proofs.SinceCourses.{from_same}
use Rattle.commands.specs.Saving.{way_since}
use Rattle.commands.proofs.Leaving.{saves_nothing}
use Rattle.commands.proofs.SaveTexts.{saves_reads, saves_takes, saves_usage}
use Rattle.commands.proofs.Takings.{takes_none}
use Rattle.commands.proofs.keeping_again.save_again.Goals as goal

pub leave_again-left-requires-clause-stands : goal.leave_again-left-requires-clause-stands
leave_again-left-requires-clause-stands g c well =
    let P = meaning_since c.args.version c.args.budget (core_of c.args.c.now) (kept_of c.args.k.now) in
    let to = c.run_machine-end.ensures.ran P c.in-Ok.ensures.begun in
    (P, whole to.ran.input, to.state well)

pub returns-in-Ok-clause-saved : goal.returns-in-Ok-clause-saved
returns-in-Ok-clause-saved g c =
    let core = core_of c.args.c.now in
    let k = kept_of c.args.k.now in
    let P = meaning_since c.args.version c.args.budget core k in
    c.leave_again-left.ensures.left P core k _ _ _ _ (from_same g.M.Machine.seen core k c.in-Ok.runner.session c.run_machine-end.new.machine.session c.run_machine-end.ensures.program c.in-Ok.ensures.from) (c.run_machine-end.ensures.ran P c.in-Ok.ensures.begun)

pub returns-in-Err-clause-saved : goal.returns-in-Err-clause-saved
returns-in-Err-clause-saved g c =
    let log = g.L.Link.log c.args.link.now in
    let left = g.L.Link.left c.args.link.now in
    let w = way_since log log left left (core_of c.args.c.now) (kept_of c.args.k.now) c.args.budget c.args.version in
    saves_nothing w c.args.name.now (g.S.Shelf.holds c.args.shelf.now) Memory tt (λ well. well) (ran_not _ log left)

pub returns-in-Ok-clause-reads : goal.returns-in-Ok-clause-reads
returns-in-Ok-clause-reads g c =
    saves_reads (way_since _ _ _ _ (core_of c.args.c.now) (kept_of c.args.k.now) c.args.budget c.args.version) _ _ _ c.leave_again-left.result (returns-in-Ok-clause-saved g c)

pub returns-in-Ok-clause-saves : goal.returns-in-Ok-clause-saves
returns-in-Ok-clause-saves g c =
    saves_usage (way_since _ _ _ _ (core_of c.args.c.now) (kept_of c.args.k.now) c.args.budget c.args.version) _ _ _ c.leave_again-left.result (returns-in-Ok-clause-saved g c)

pub returns-in-Err-clause-reads : goal.returns-in-Err-clause-reads
returns-in-Err-clause-reads g c = adds_none _ _ (ReadsWell Memory) refl (unread Memory)

pub returns-in-Ok-clause-taken : goal.returns-in-Ok-clause-taken
returns-in-Ok-clause-taken g c =
    saves_takes (way_since _ _ _ _ (core_of c.args.c.now) (kept_of c.args.k.now) c.args.budget c.args.version) _ _ _ c.leave_again-left.result (returns-in-Ok-clause-saved g c)

pub returns-in-Err-clause-taken : goal.returns-in-Err-clause-taken
returns-in-Err-clause-taken g c = takes_none _ _ _ _ (refl, refl)
