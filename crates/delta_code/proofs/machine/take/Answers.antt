-- The machine goes on by the run of its state on the event.
use Rattle.std.proofs.Common.{◌≡◌, ◌<◌, ◌≤◌, suc, Err, ap, ap₂, ◌∙◌, sym, subst, arith}
use Rattle.stream_type.specs.declared.ty.Ty.{Ty}
use Rattle.stream_type.specs.StreamType.{StreamType, type_of}
use Rattle.stream_prefix.specs.declared.prefix.Prefix.{Prefix}
use Rattle.stream_prefix.specs.StreamPrefix.{StreamPrefix, der}
use Rattle.stream_prefix.specs.Tree.{prefix_of}
use Rattle.std.proofs.lemmas.Result.{err_from_is_err_and}
use Rattle.event_word.specs.Word.{one_of}
use Rattle.core_term.specs.Run.{Run}
use Rattle.delta_state.specs.declared.machine.StepRefusal.{StepRefusal}
use Rattle.delta_state.specs.declared.machine.StepRefusal.TheVariants.{Budget, Deep}
use Rattle.delta_state.specs.StateTree.{StateTree}
use Rattle.machine_parts.specs.AwaitedTree.{awaited_in, awaited_after}
use Rattle.state_rewriting.specs.Rewriting.{SimplerBy}
use Rattle.template_state.specs.Readers.{state_in}
use Rattle.delta_code.specs.CodedView.{run_awaiting, rest_awaiting, run_by, state_by}
use Rattle.delta_code.proofs.machine.take.Goals as goal

pub returns-in_err-told-clause-costly : goal.returns-in_err-told-clause-costly
returns-in_err-told-clause-costly c n q =
    let m = c.args.machine.now in
    let x = c.args.x.now in
    let came : prefix_of c.deref-4.result.now ≡ one_of x (type_of m.input.value) = ap (λ (p : Prefix). prefix_of p) c.deref-4.ensures ∙ (c.in_ok-next.ensures ∙ ap (λ (t : Ty). one_of x (type_of t)) c.deref.ensures) in
    let runs : run_awaiting c.deref-2.result.now (state_in c.deref_mut-2.result.now) (type_of c.deref_mut.result.now) (awaited_in c.deref-3.result.now) (prefix_of c.deref-4.result.now) ≡ run_by m x =
    λ j. run_awaiting (c.deref-2.ensures j) (state_in (c.deref_mut-2.ensures.value j)) (type_of (c.deref_mut.ensures.value j)) (awaited_in (c.deref-3.ensures j)) (came j) in
    let exit = err_from_is_err_and c.from_residual-in_err-told.result c.from_residual-in_err-told.ensures.1 in
    let is : c.in_err-told.field-0.0 ≡ Budget n = cc (exit.1, exit.2, q) in
    let given = c.in_err-told.ensures.costly n (ap (λ (r : StepRefusal). Err r) is) in
    (given.0, subst (λ (r : Run). n < r.calls) runs given.1)

pub returns-in_err-told-clause-deep : goal.returns-in_err-told-clause-deep
returns-in_err-told-clause-deep c n q =
    let m = c.args.machine.now in
    let x = c.args.x.now in
    let came : prefix_of c.deref-4.result.now ≡ one_of x (type_of m.input.value) = ap (λ (p : Prefix). prefix_of p) c.deref-4.ensures ∙ (c.in_ok-next.ensures ∙ ap (λ (t : Ty). one_of x (type_of t)) c.deref.ensures) in
    let runs : run_awaiting c.deref-2.result.now (state_in c.deref_mut-2.result.now) (type_of c.deref_mut.result.now) (awaited_in c.deref-3.result.now) (prefix_of c.deref-4.result.now) ≡ run_by m x =
    λ j. run_awaiting (c.deref-2.ensures j) (state_in (c.deref_mut-2.ensures.value j)) (type_of (c.deref_mut.ensures.value j)) (awaited_in (c.deref-3.ensures j)) (came j) in
    let exit = err_from_is_err_and c.from_residual-in_err-told.result c.from_residual-in_err-told.ensures.1 in
    let is : c.in_err-told.field-0.0 ≡ Deep n = cc (exit.1, exit.2, q) in
    let given = c.in_err-told.ensures.deep n (ap (λ (r : StepRefusal). Err r) is) in
    (given.0, subst (λ (r : Run). 1001 < r.level) runs given.1)

pub returns-clause-taken : goal.returns-clause-taken
returns-clause-taken c =
    let m = c.args.machine.now in
    let x = c.args.x.now in
    let i = type_of m.input.value in
    let a = awaited_in m.awaited.value in
    let came : prefix_of c.deref-4.result.now ≡ one_of x i = ap (λ (p : Prefix). prefix_of p) c.deref-4.ensures ∙ (c.in_ok-next.ensures ∙ ap (λ (t : Ty). one_of x (type_of t)) c.deref.ensures) in
    let runs : run_awaiting c.deref-2.result.now (state_in c.deref_mut-2.result.now) (type_of c.deref_mut.result.now) (awaited_in c.deref-3.result.now) (prefix_of c.deref-4.result.now) ≡ run_by m x =
    λ j. run_awaiting (c.deref-2.ensures j) (state_in (c.deref_mut-2.ensures.value j)) (type_of (c.deref_mut.ensures.value j)) (awaited_in (c.deref-3.ensures j)) (came j) in
    let rests : rest_awaiting c.deref-2.result.now (state_in c.deref_mut-2.result.now) (type_of c.deref_mut.result.now) (awaited_in c.deref-3.result.now) (prefix_of c.deref-4.result.now) ≡ state_by m x =
    λ j. rest_awaiting (c.deref-2.ensures j) (state_in (c.deref_mut-2.ensures.value j)) (type_of (c.deref_mut.ensures.value j)) (awaited_in (c.deref-3.ensures j)) (came j) in
    let again : prefix_of c.deref-5.result.now ≡ one_of x i = ap (λ (p : Prefix). prefix_of p) c.deref-5.ensures ∙ (c.in_ok-next.ensures ∙ ap (λ (t : Ty). one_of x (type_of t)) c.deref.ensures) in
    let k = c.in_ok-advance.ensures in
    let after = c.advance.new.machine in
    let gone = c.in_ok-told.ensures in
    let run = gone.run ∙ runs in
    let left : SimplerBy (type_of c.next_run.new.output) (state_by m x) (state_in c.next_run.new.state) =
    subst (λ (s : StateTree). SimplerBy (type_of c.next_run.new.output) s (state_in c.next_run.new.state)) rests gone.rest in
    let stands : SimplerBy (type_of c.next_run.new.output) (state_by m x) (state_in after.state.value) =
    subst (λ (s : StateTree). SimplerBy (type_of c.next_run.new.output) (state_by m x) s) (sym k.state) left in
    record {
      program = k.program;
      budget = k.budget;
      within = subst (λ (r : Run). r.calls ≤ m.budget) run gone.counted;
      state = subst (λ (t : StreamType). SimplerBy t (state_by m x) (state_in after.state.value)) (sym k.output) stands;
      awaited = k.awaited ∙ ap (λ (d : StreamPrefix). awaited_after a d) again;
      input = k.input ∙ ap (λ (d : StreamPrefix). der d i) again;
      output = k.output ∙ (gone.output ∙ ap₂ (λ (r : Run) (t : Ty). der r.out (type_of t)) runs c.deref_mut.ensures.value);
      events = let n : after.events ≡ suc m.events = omega (arith, k.events) in n;
      spent = k.spent ∙ ap (λ (r : Run). r.calls) run;
      is_answer = k.answer ∙ ap (λ (r : Run). r.out) run;
    }
