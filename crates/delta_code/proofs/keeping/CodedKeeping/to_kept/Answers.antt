-- What is kept of the machine has its place and its state, and goes on just as its program, or as the kept state that it
-- stands for.
use Rattle.std.proofs.Common.{◌∙◌, ap, refl}
use Rattle.stream_type.specs.declared.ty.Ty.{Ty}
use Rattle.stream_type.specs.StreamType.{type_of}
use Rattle.delta_state.specs.PlainState.{without_marks}
use Rattle.machine_parts.specs.declared.awaited.Awaited.{Awaited}
use Rattle.machine_parts.specs.AwaitedTree.{awaited_in, place_in}
use Rattle.machine_kept.proofs.SinceSteps.{is_kept_again}
use Rattle.machine_kept.proofs.TidySteps.{is_kept_of}
use Rattle.template_state.specs.declared.live.Live.{Live}
use Rattle.template_state.specs.Readers.{state_in}
use Rattle.delta_code.specs.CodedView.{program_of}
use Rattle.delta_code.proofs.keeping.CodedKeeping.to_kept.Goals as goal

pub returns-clause-events : goal.returns-clause-events
returns-clause-events c = refl

pub returns-clause-place : goal.returns-clause-place
returns-clause-place c = c.in_ok-place.ensures ∙ ap (λ (a : Awaited). place_in (awaited_in a)) c.deref-2.ensures

pub returns-clause-state : goal.returns-clause-state
returns-clause-state c = ap without_marks (c.in_ok-state.ensures ∙ ap (λ (s : Live). state_in s) c.deref.ensures)

pub returns-clause-kept : goal.returns-clause-kept
returns-clause-kept c word stands few =
    let m = c.args.self.now in
    is_kept_of (program_of m) m.budget (state_in m.state.value) (awaited_in m.awaited.value) (type_of m.input.value) (type_of m.output.value) m.events m.spent word stands few _ refl
    (c.in_ok-place.ensures ∙ ap (λ (a : Awaited). place_in (awaited_in a)) c.deref-2.ensures)
    (c.in_ok-out.ensures ∙ ap (λ (t : Ty). type_of t) c.deref-3.ensures)
    (c.in_ok-state.ensures ∙ ap (λ (s : Live). state_in s) c.deref.ensures)

pub returns-clause-output : goal.returns-clause-output
returns-clause-output c word stands = c.in_ok-out.ensures ∙ ap (λ (t : Ty). type_of t) c.deref-3.ensures ∙ stands.below.keeps.keeps.is_output

pub returns-clause-kept_again : goal.returns-clause-kept_again
returns-clause-kept_again c k word since few =
    let m = c.args.self.now in
    is_kept_again (program_of m) m.budget (state_in m.state.value) (awaited_in m.awaited.value) (type_of m.input.value) (type_of m.output.value) m.events m.spent k word since few _ refl
    (c.in_ok-place.ensures ∙ ap (λ (a : Awaited). place_in (awaited_in a)) c.deref-2.ensures)
    (c.in_ok-out.ensures ∙ ap (λ (t : Ty). type_of t) c.deref-3.ensures)
    (c.in_ok-state.ensures ∙ ap (λ (s : Live). state_in s) c.deref.ensures)

pub returns-clause-output_again : goal.returns-clause-output_again
returns-clause-output_again c k word since = c.in_ok-out.ensures ∙ ap (λ (t : Ty). type_of t) c.deref-3.ensures ∙ since.is_output
