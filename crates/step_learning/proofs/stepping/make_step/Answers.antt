-- What is in hand goes on by the run of its state, which is then put into a simpler form.
use Rattle.std.proofs.Common.{◌≡◌, ◌∙◌, ap, sym, subst}
use Rattle.stream_type.specs.StreamType.{type_of}
use Rattle.stream_prefix.specs.declared.prefix.Prefix.{Prefix}
use Rattle.stream_prefix.specs.StreamPrefix.{StreamPrefix, der}
use Rattle.stream_prefix.specs.Tree.{prefix_of}
use Rattle.event_word.specs.Canon.{canon}
use Rattle.core_term.specs.Run.{Run}
use Rattle.delta_state.specs.StateTree.{StateTree}
use Rattle.machine_parts.specs.AwaitedTree.{awaited_in}
use Rattle.state_rewriting.specs.Rewriting.{SimplerBy}
use Rattle.state_rewriting.proofs.RewritingsInside.{by_then}
use Rattle.template_state.specs.Readers.{state_in}
use Rattle.delta_code.specs.CodedView.{run_awaiting, rest_awaiting}
use Rattle.step_learning.specs.Tries.{run_in, rest_in}
use Rattle.step_learning.proofs.stepping.make_step.Goals as goal

pub returns : goal.returns
returns c =
    let code = c.args.code.now in
    let old = c.args.run.now in
    let new = c.move_on.new.run in
    let d = prefix_of c.args.next.now in
    let o = type_of old.output.value in
    let runs : run_awaiting code (state_in c.deref_mut.result.now) (type_of c.deref-2.result.now) (awaited_in c.deref.result.now) d ≡ run_in code old d =
    λ j. run_awaiting code (state_in (c.deref_mut.ensures.value j)) (type_of (c.deref-2.ensures j)) (awaited_in (c.deref.ensures j)) d in
    let rests : rest_awaiting code (state_in c.deref_mut.result.now) (type_of c.deref-2.result.now) (awaited_in c.deref.result.now) d ≡ rest_in code old d =
    λ j. rest_awaiting code (state_in (c.deref_mut.ensures.value j)) (type_of (c.deref-2.ensures j)) (awaited_in (c.deref.ensures j)) d in
    let run = c.in_ok-told.ensures.run ∙ runs in
    let given : prefix_of c.deref-5.result.now ≡ (run_in code old d).out = ap (λ (p : Prefix). prefix_of p) c.deref-5.ensures ∙ ap (λ (r : Run). r.out) run in
    let said : canon (prefix_of c.deref-4.result.now) ≡ c.in-Some.said.items = rw c.in-Some.is at c.in_ok-said.ensures in
    let k = c.in_ok-move_on.ensures in
    record {
      is_said = ap canon (sym (ap (λ (p : Prefix). prefix_of p) c.deref-4.ensures ∙ ap (λ (r : Run). r.out) run)) ∙ said;
      are_calls = ap (λ (r : Run). r.calls) (sym run);
      in_budget = c.in_ok-told.ensures.counted;
      simpler = subst (λ (p : StreamPrefix × StateTree). SimplerBy (der p.0 o) p.1 (state_in new.state.value)) (λ i. (given i, rests i)) (by_then (c.in_ok-told.ensures.rest.at (der (prefix_of c.deref-5.result.now) o)) k.simpler);
      is_awaited = k.is_awaited;
      is_input = k.is_input;
      is_output = k.is_output ∙ ap (λ (p : StreamPrefix). der p o) given;
    }
