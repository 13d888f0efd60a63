-- What stands before anything more has come.
use Rattle.std.proofs.Common.{◌≡◌, ◌+◌, [], ap, subst, refl, ◌∙◌, arith}
use Rattle.stream_type.specs.declared.ty.Ty.{Ty}
use Rattle.stream_type.specs.StreamType.{type_of}
use Rattle.core_term.specs.declared.program.Core.{Core}
use Rattle.core_term.specs.CoreTerm.{core_of}
use Rattle.core_term.specs.FreeNames.{IsCore}
use Rattle.core_term.specs.Typing.{IsTypedCore}
use Rattle.kept_state.specs.KeptMeaning.{input_kept}
use Rattle.delta_keep.specs.KeptView.{kept_of}
use Rattle.delta_session.proofs.RunningPrograms.{fits_narrow}
use Rattle.delta_runner.proofs.SinceCourses.{at_start, from_its}
use Rattle.delta_runner.proofs.resuming.resume.Goals as goal

pub returns-clause-stands : goal.returns-clause-stands
returns-clause-stands g c =
    let same = c.core-core.ensures.program in
    let none_more : c.args.k.now.events ≡ c.args.k.now.events + 0 = omega arith in
    c.over.ensures.stands _ []
    (at_start g.M.Machine.seen g.M.Keeping.since g.met.M.Keeping.stands_since (record { machine = c.in_ok-machine.machine; from = c.args.k }) _ _ (core_of c.args.c.now) (kept_of c.args.k.now) _ refl
    (record {
      core = subst (λ (d : Core). IsCore (core_of d)) same c.core-core.ensures.core;
      typed = subst (λ (d : Core). IsTypedCore (core_of d)) same c.core-core.ensures.typed;
      narrow = fits_narrow (core_of c.args.c.now) c.requires.fits;
    })
    c.requires.typed c.in_ok-machine.ensures.program c.in_ok-machine.ensures.budget c.in_ok-machine.ensures.stands
    (c.in_ok-rest.ensures ∙ ap (λ (d : Core). input_kept (core_of d) (kept_of c.args.k.now)) same)
    (c.in_ok-output.ensures ∙ ap (λ (t : Ty). type_of t) c.deref.ensures))
    none_more

pub returns-clause-taken : goal.returns-clause-taken
returns-clause-taken g c =
    let none_more : c.args.k.now.events ≡ c.args.k.now.events + 0 = omega arith in
    c.over.ensures.taken _ [] (c.in_ok-rest.ensures ∙ ap (λ (d : Core). input_kept (core_of d) (kept_of c.args.k.now)) c.core-core.ensures.program) none_more

pub returns-clause-from : goal.returns-clause-from
returns-clause-from g c =
    from_its g.M.Machine.seen c.over.result (record { machine = c.in_ok-machine.machine; from = c.args.k }) _ _ c.over.ensures.runs c.in_ok-machine.ensures.program refl
