-- An event that is admitted is taken by the machine, and what is said to it is framed.
use Rattle.std.proofs.Common.{◌≡◌, ◌∙◌, ◌≤◌, ℕ, Some, Err, refl, sym, ap, subst}
use Rattle.stream_type.specs.declared.ty.Ty.{Ty}
use Rattle.stream_type.specs.StreamType.{type_of, StreamType, reach_of}
use Rattle.stream_prefix.specs.StreamPrefix.{IsPrefix}
use Rattle.stream_prefix.specs.Tree.{prefix_of}
use Rattle.event_word.specs.EventFault.{fault_of}
use Rattle.event_word.specs.Canon.{canon}
use Rattle.event_frame.specs.Frames.{frames}
use Rattle.delta_state.specs.MachineView.{IsCostly}
use Rattle.delta_code.specs.CodedView.{program_of}
use Rattle.event_word.proofs.Walks.{no_fault_is_admitted}
use Rattle.learned_runner.proofs.Answerable as answerable
use Rattle.learned_runner.proofs.answering.answer.Goals as goal

pub returns-in-Err-clause-refused : goal.returns-in-Err-clause-refused
returns-in-Err-clause-refused c fault is =
    let same : c.in-Err.fault ≡ fault = cc in (
      ap (λ (t : Ty). fault_of c.args.x.now (type_of t)) (sym c.deref.ensures) ∙ (c.in-Err.ensures.fault c.in-Err.fault).0 refl ∙ ap Some same,
      refl,
    )

pub canon-requires-clause-prefix : goal.canon-requires-clause-prefix
canon-requires-clause-prefix c =
    let none = ap (λ (t : Ty). fault_of c.args.x.now (type_of t)) (sym c.deref.ensures) ∙ (no_fault_is_admitted (type_of c.deref.result.now) c.args.x.now).1 (c.in-Ok.ensures.ok.0 refl) in
    let may = c.requires.may in
    subst (λ (t : StreamType). IsPrefix t (prefix_of c.in-Ok-step.said)) (sym (c.in_ok-output.ensures ∙ ap type_of c.deref-2.ensures))
    (answerable.fits c.args.machine.now c.args.x.now none c.args.version may (prefix_of c.in-Ok-step.said)
    (c.in-Ok-step.ensures.answer may.word (answerable.awaits c.args.machine.now c.args.x.now none may.word may.stands)))

pub canon-requires-clause-reach : goal.canon-requires-clause-reach
canon-requires-clause-reach c =
    let none = ap (λ (t : Ty). fault_of c.args.x.now (type_of t)) (sym c.deref.ensures) ∙ (no_fault_is_admitted (type_of c.deref.result.now) c.args.x.now).1 (c.in-Ok.ensures.ok.0 refl) in
    subst (λ (t : StreamType). reach_of t ≤ 63) (sym (c.in_ok-output.ensures ∙ ap type_of c.deref-2.ensures))
    (answerable.is_narrow c.args.machine.now c.args.x.now none c.args.version c.requires.may)

pub word_frames-requires : goal.word_frames-requires
word_frames-requires c =
    let none = ap (λ (t : Ty). fault_of c.args.x.now (type_of t)) (sym c.deref.ensures) ∙ (no_fault_is_admitted (type_of c.deref.result.now) c.args.x.now).1 (c.in-Ok.ensures.ok.0 refl) in
    let may = c.requires.may in
    answerable.within c.args.machine.now c.args.x.now none c.args.version may c.deref-in-Ok-step.result.now (prefix_of c.in-Ok-step.said)
    (c.deref-in-Ok-step.ensures.value ∙ c.in_ok-word-in-Ok-step.ensures.canonical)
    (c.in-Ok-step.ensures.answer may.word (answerable.awaits c.args.machine.now c.args.x.now none may.word may.stands))

pub returns-in-Ok-step-clause-answers : goal.returns-in-Ok-step-clause-answers
returns-in-Ok-step-clause-answers c word stands =
    let none = ap (λ (t : Ty). fault_of c.args.x.now (type_of t)) (sym c.deref.ensures) ∙ (no_fault_is_admitted (type_of c.deref.result.now) c.args.x.now).1 (c.in-Ok.ensures.ok.0 refl) in
    let awaits = answerable.awaits c.args.machine.now c.args.x.now none word stands in
    record {
      admitted = none;
      program = c.in-Ok-step.ensures.program;
      budget = c.in-Ok-step.ensures.budget;
      stands = c.in-Ok-step.ensures.stands word awaits;
      framed = c.in_ok-word_frames-in-Ok-step.ensures
          ∙ ap (frames c.args.version) (c.deref-in-Ok-step.ensures.value ∙ c.in_ok-word-in-Ok-step.ensures.canonical ∙ ap canon (c.in-Ok-step.ensures.answer word awaits));
    }

pub returns-in-Err-Budget-clause-costly : goal.returns-in-Err-Budget-clause-costly
returns-in-Err-Budget-clause-costly c is =
    let none = ap (λ (t : Ty). fault_of c.args.x.now (type_of t)) (sym c.deref.ensures) ∙ (no_fault_is_admitted (type_of c.deref.result.now) c.args.x.now).1 (c.in-Ok.ensures.ok.0 refl) in
    let costly = c.step.ensures.costly c.in-Err-Budget.field-0-0 (c.in-Err-Budget.is ∙ ap Err c.in-Err-Budget.field-0-is) in (
      none,
      λ word stands.
          subst (λ (n : ℕ). IsCostly (program_of c.args.machine.now) n word c.args.x.now) costly.0
          (costly.1 word (answerable.awaits c.args.machine.now c.args.x.now none word stands)),
    )

pub returns-clause-deep : goal.returns-clause-deep
returns-clause-deep c is =
    let none = ap (λ (t : Ty). fault_of c.args.x.now (type_of t)) (sym c.deref.ensures) ∙ (no_fault_is_admitted (type_of c.deref.result.now) c.args.x.now).1 (c.in-Ok.ensures.ok.0 refl) in
    let deep = c.step.ensures.deep c.in-Err-Deep.field-0-0 (c.in-Err-Deep.is ∙ ap Err c.in-Err-Deep.field-0-is) in (
      none,
      λ word stands. deep.1 word (answerable.awaits c.args.machine.now c.args.x.now none word stands),
    )
