-- The laws of buffer bounds for whole programs.
use Rattle.std.proofs.Common.{◌≡◌, ◌∙◌, ◌≤◌, length, ℕ, true, [], if◌then◌else◌, ap, subst, sym, arith}
use Rattle.std.specs.Prelude.{Some, None}
use Rattle.stream_prefix.specs.StreamPrefix.{StreamPrefix, emp, der, join}
use Rattle.stream_prefix.proofs.Derivations.{Derives, derives, is_prefix}
use Rattle.stream_prefix.proofs.Joins.{emp_is_prefix}
use Rattle.bunch.specs.BunchTree.{BunchTree, as_type, leaf_names}
use Rattle.bunch.specs.Names.{holds}
use Rattle.event_word.specs.Word.{one_of, after_word}
use Rattle.event_word.proofs.Words.{word_derives}
use Rattle.core_term.specs.Agreement.{types_in}
use Rattle.core_term.specs.CoreTerm.{CoreProgram}
use Rattle.core_term.specs.Environment.{NameTypes, left_at}
use Rattle.core_term.specs.Inert.{is_inert_fun}
use Rattle.core_term.specs.Meaning.{calls_of, horizon}
use Rattle.core_term.specs.Split.{split, split_after}
use Rattle.core_term.proofs.Agreements.{order_of_tree}
use Rattle.core_term.proofs.Gathering.{split_agrees_in_tree, split_after_agrees}
use Rattle.core_term.proofs.Splits.{split_derives, split_after_derives}
use Rattle.core_term.proofs.TypedRuns.{Any, free_are_streams}
use Rattle.core_term.proofs.TypedTerms.{derive}
use Rattle.delta_state.specs.PlainState.{events_held}
use Rattle.delta_state.specs.MachineView.{input_of}
use Rattle.delta_state.specs.Rest.{first_state, next_state}
use Rattle.delta_state.specs.Stands.{StandsFor, input_type, output_left, context_after, rest_calls, depth_after}
use Rattle.delta_state.specs.StateTree.{StateTree}
use Rattle.delta_state.specs.StateTyping.{no_pasts}
use Rattle.state_steps.specs.Laws.{IsRunnable}
use Rattle.state_steps.proofs.FactsWithin.{within_itself}
use Rattle.state_steps.proofs.CalledBodies.{body_context, extends_params}
use Rattle.state_steps.proofs.StateSteps.{IsReady}
use Rattle.state_steps.proofs.SplitInputs.{left_after}
use Rattle.state_steps.proofs.RunnablePrograms.{all_apart, main_apart, distinct_params, main_typed}
use Rattle.state_steps.proofs.ProgramSteps.{extends_after, event_derives, input_after}
use Rattle.state_bounds.specs.Bounds.{Bound, ◌⊑◌}
use Rattle.state_bounds.specs.ProgramBound.{AreEnough, main_bound}
use Rattle.state_bounds.specs.Laws.{bound_after, FirstHolds, StepHolds, EventHolds, SettledHolds, MachineHolds}
use Rattle.state_bounds.proofs.LeftParameters.{is_parameter}
use Rattle.state_bounds.proofs.RestsOfTerms.{rest_at_most}
use Rattle.state_bounds.proofs.StateStreams.{state_streams}
use Rattle.state_bounds.proofs.RestsOfStates.{step_at_most}
use Rattle.state_bounds.proofs.WordSizes.{below_limit}
use Rattle.state_bounds.proofs.HeldEvents.{settled_counted}

module _ (c : CoreProgram) (runnable : IsRunnable c) (numbers : ℕ → Bound) (enough : AreEnough c numbers) where
  -- the parameters of main, and what an input leaves of their types
  abbrev params : BunchTree
  params = c.main.params

  abbrev left : StreamPrefix → NameTypes
  left p = left_at (split params p) (types_in params)

  -- the context after an input has of parameters what is left of their types,
  left_there : (p : StreamPrefix) (x : ℕ) → holds x (leaf_names params) ≡ true → Some (left p x) ≡ (context_after c p).types x
  left_there p x m = sym (ap (λ b. if b then Some (left p x) else None) m)

  -- so what is left of main's body before any event holds no more than main
  first_at_most : calls_of c (emp (input_type c)) ≤ horizon → bound_after c numbers (emp (input_type c)) (first_state c) ⊑ main_bound c numbers
  first_at_most le =
      let p = emp (as_type params) in
      let h = emp_is_prefix (as_type params) in
      let distinct = distinct_params c runnable in
      let streams = free_are_streams c.funs (is_inert_fun c.funs) c.main.body (body_context c.main) c.main.result (main_typed c runnable) in
      rest_at_most c.funs runnable.is_typed.funs_typed (all_apart c runnable) numbers enough horizon
      (derive c.funs (is_inert_fun c.funs) Any (λ x z. tt) c.main.body (body_context c.main) (types_in params) no_pasts c.main.result (extends_params c.main) (main_typed c runnable)) (main_apart c runnable) (split params p) []
      (record { at = split_derives params h }) (order_of_tree params distinct (split params p) (split_agrees_in_tree params distinct h)) (λ x t k. absurd (cc k)) le
      (context_after c p) (record { types = λ x m. left_there p x (is_parameter params (types_in params) x (streams.at x m)); order = within_itself _ _ })

  module _ (n : ℕ) (p d : StreamPrefix) (s : StateTree) (h : Derives (as_type c.main.params) p) (k : Derives (der p (as_type c.main.params)) d) (stands : StandsFor c n p s) (le : rest_calls c p s d ≤ n) where
    -- of the free names of a state after p, the context after p and d has what d leaves,
    after_both : (x : ℕ) → holds x (leaf_names params) ≡ true → Some (left_at (split_after params p d) (left p) x) ≡ (context_after c (join p d)).types x
    after_both x m = ap Some (sym (left_after params h k x)) ∙ left_there (join p d) x m

    -- so the state that follows one that stands for the program holds no more than it
    next_at_most : bound_after c numbers (join p d) (next_state c p s d) ⊑ bound_after c numbers p s
    next_at_most =
        let ready : IsReady c.funs n (context_after c p) (left p) (output_left c p) s = record { extends = extends_after c p; typed = stands.is_typed; settled = stands.settled; deep = stands.is_deep } in
        let streams = state_streams c.funs (is_inert_fun c.funs) s (context_after c p) (output_left c p) stands.is_typed in
        step_at_most c.funs runnable.is_typed.funs_typed (all_apart c runnable) numbers enough n s (context_after c p) (left p) (output_left c p) ready (split_after params p d) (record { at = split_after_derives params h k })
        (split_after_agrees params (distinct_params c runnable) p d (is_prefix h) (is_prefix k)) le (context_after c (join p d)) (record { types = λ x m. after_both x (is_parameter params (left p) x (streams.at x m)); order = within_itself _ _ })

-- the laws
pub first_holds : FirstHolds
first_holds c numbers runnable enough le = first_at_most c runnable numbers enough le

pub step_holds : StepHolds
step_holds c numbers n p d s runnable enough h k stands le = next_at_most c runnable numbers enough n p d s (derives (input_type c) p h) (derives (der p (input_type c)) d k) stands le

pub event_holds : EventHolds
event_holds c numbers w x s runnable enough word admits room stands le =
    let p = input_of c w in
    let d = one_of x (after_word w (input_type c)) in
    let n = depth_after (length w) in
    let deep : rest_calls c p s d ≤ n = omega (arith, le, room) in
    subst (λ q. bound_after c numbers q (next_state c p s d) ⊑ bound_after c numbers p s) (sym (input_after c w x word admits))
    (next_at_most c runnable numbers enough n p d s (word_derives (input_type c) w word) (event_derives c w x word admits) stands deep)

pub settled_holds : SettledHolds
settled_holds funs counts numbers c s r n h i within below = below_limit _ n _ (settled_counted funs counts numbers s c r h i) within below

pub machine_holds : MachineHolds
machine_holds m word numbers n w below =
    let stands = w.stands.stands_for in
    let few = settled_holds m.program.funs (is_inert_fun m.program.funs) numbers (context_after m.program _) w.stands.marked (output_left m.program _) n stands.is_typed stands.settled w.within below in
    let same = ap events_held w.stands.is_state in
    omega (arith, few, same)
