-- What the machine holds after an event is what it has to keep, what it gives is the answer, and what it stops
-- for is the program's.
use Rattle.std.proofs.Common.{◌≡◌, ◌<◌, suc, Err, ap, ◌∙◌, subst, arith}
use Rattle.stream_type.specs.declared.ty.Ty.{Ty}
use Rattle.stream_type.specs.StreamType.{type_of}
use Rattle.stream_prefix.specs.declared.prefix.Prefix.{Prefix}
use Rattle.stream_prefix.specs.StreamPrefix.{StreamPrefix}
use Rattle.stream_prefix.specs.Tree.{prefix_of}
use Rattle.std.proofs.lemmas.Result.{err_from_is_err_and}
use Rattle.event_word.specs.Word.{one_of}
use Rattle.core_term.specs.CoreTerm.{core_of}
use Rattle.delta_state.specs.declared.machine.StepRefusal.{StepRefusal}
use Rattle.delta_state.specs.declared.machine.StepRefusal.TheVariants.{Budget, Deep}
use Rattle.main_steps.specs.Laws.{run_on, state_on}
use Rattle.delta_step.specs.Marked.{state_in}
use Rattle.delta_step.specs.Reached.{run_of}
use Rattle.machine_parts.specs.AwaitedTree.{awaited_in, entries_on}
use Rattle.machine_parts.proofs.StandingTrees.{is_costly, is_deep, is_answer}
use Rattle.machine_bounds.proofs.BelowBounds.{goes_on_below_with}
use Rattle.delta_step.proofs.machine.TreeMachine.step.Goals as goal

pub returns-in_err-run-clause-costly : goal.returns-in_err-run-clause-costly
returns-in_err-run-clause-costly c n q =
    let m = c.args.self.now in
    let x = c.args.x.now in
    let same : prefix_of c.deref-2.result.now ≡ one_of x (type_of m.input.value) =
    ap (λ (p : Prefix). prefix_of p) c.deref-2.ensures ∙ (c.in_ok-next.ensures ∙ ap (λ (t : Ty). one_of x (type_of t)) c.deref.ensures) in
    let exit = err_from_is_err_and c.from_residual-in_err-run.result c.from_residual-in_err-run.ensures.1 in
    let is : c.in_err-run.field-0.0 ≡ Budget n = cc (exit.1, exit.2, q) in
    let told = c.in_err-run.ensures.costly n (ap (λ (r : StepRefusal). Err r) is) in
    let d = core_of m.core.value in
    let s = state_in m.state.value in
    let a = awaited_in m.awaited.value in
    let i = type_of m.input.value in
    let o = type_of m.output.value in
    (told.0, λ word w. is_costly d m.budget s a i o m.events m.spent word x w.stands_after.keeps w.admits n (subst (λ (p : StreamPrefix). n < (run_on d s o (entries_on a p)).calls) same told.1))

pub returns-in_err-run-clause-deep : goal.returns-in_err-run-clause-deep
returns-in_err-run-clause-deep c n q =
    let m = c.args.self.now in
    let x = c.args.x.now in
    let same : prefix_of c.deref-2.result.now ≡ one_of x (type_of m.input.value) =
    ap (λ (p : Prefix). prefix_of p) c.deref-2.ensures ∙ (c.in_ok-next.ensures ∙ ap (λ (t : Ty). one_of x (type_of t)) c.deref.ensures) in
    let exit = err_from_is_err_and c.from_residual-in_err-run.result c.from_residual-in_err-run.ensures.1 in
    let is : c.in_err-run.field-0.0 ≡ Deep n = cc (exit.1, exit.2, q) in
    let told = c.in_err-run.ensures.deep n (ap (λ (r : StepRefusal). Err r) is) in
    let d = core_of m.core.value in
    let s = state_in m.state.value in
    let a = awaited_in m.awaited.value in
    let i = type_of m.input.value in
    let o = type_of m.output.value in
    (told.0, λ word w. is_deep d m.budget s a i o m.events m.spent word x w.stands_after.keeps w.admits (subst (λ (p : StreamPrefix). 1001 < (run_on d s o (entries_on a p)).level) same told.1))

pub returns-clause-stands : goal.returns-clause-stands
returns-clause-stands c word w =
    let m = c.args.self.now in
    let x = c.args.x.now in
    let same : prefix_of c.deref-2.result.now ≡ one_of x (type_of m.input.value) =
    ap (λ (p : Prefix). prefix_of p) c.deref-2.ensures ∙ (c.in_ok-next.ensures ∙ ap (λ (t : Ty). one_of x (type_of t)) c.deref.ensures) in
    let again : prefix_of c.deref-3.result.now ≡ one_of x (type_of m.input.value) =
    ap (λ (p : Prefix). prefix_of p) c.deref-3.ensures ∙ (c.in_ok-next.ensures ∙ ap (λ (t : Ty). one_of x (type_of t)) c.deref.ensures) in
    let d = core_of m.core.value in
    let s = state_in m.state.value in
    let a = awaited_in m.awaited.value in
    let i = type_of m.input.value in
    let o = type_of m.output.value in
    let k = c.in_ok-advance.ensures in
    let after = c.advance.new.machine in
    let next : after.events ≡ suc m.events = omega (arith, k.events) in
    goes_on_below_with d m.budget s a i o m.events m.spent word x w.stands_after w.admits (run_of c.in_ok-run.run') (c.in_ok-run.ensures.run ∙ ap (λ (p : StreamPrefix). run_on d s o (entries_on a p)) same) c.in_ok-run.ensures.counted c.requires.has_room
    (prefix_of c.deref-3.result.now) (state_in after.state.value) (core_of after.core.value) after.budget (awaited_in after.awaited.value) (type_of after.input.value) (type_of after.output.value) after.events after.spent
    again
    (k.state ∙ (c.in_ok-run.ensures.rest ∙ ap (λ (p : StreamPrefix). state_on d s o (entries_on a p)) same))
    k.core k.budget k.awaited k.input k.output next k.spent

pub returns-clause-answer : goal.returns-clause-answer
returns-clause-answer c word w =
    let m = c.args.self.now in
    let x = c.args.x.now in
    let same : prefix_of c.deref-2.result.now ≡ one_of x (type_of m.input.value) =
    ap (λ (p : Prefix). prefix_of p) c.deref-2.ensures ∙ (c.in_ok-next.ensures ∙ ap (λ (t : Ty). one_of x (type_of t)) c.deref.ensures) in
    let d = core_of m.core.value in
    let s = state_in m.state.value in
    let a = awaited_in m.awaited.value in
    let i = type_of m.input.value in
    let o = type_of m.output.value in
    c.in_ok-advance.ensures.answer ∙ is_answer d m.budget s a i o m.events m.spent word x w.stands_after.keeps w.admits (run_of c.in_ok-run.run') (c.in_ok-run.ensures.run ∙ ap (λ (p : StreamPrefix). run_on d s o (entries_on a p)) same) c.in_ok-run.ensures.counted c.requires.has_room
