-- The step theorem for programs, over what their input is and over words of events.
use Rattle.std.proofs.Common.{◌≡◌, ◌∙◌, ℕ, true, List, [], ◌∷◌, ap, refl, subst, sym, arith, Bool, false, if◌then◌else◌, ◌++◌, ◌≤◌, ◌+◌, suc, length}
use Rattle.std.proofs.lemmas.List.Elements.{All-nil}
use Rattle.std.specs.Prelude.{Some, None}
use Rattle.stream_type.specs.StreamType.{StreamType}
use Rattle.stream_prefix.specs.Increment.{increment}
use Rattle.stream_prefix.specs.StreamPrefix.{StreamPrefix, emp, der, join}
use Rattle.stream_prefix.proofs.Derivations.{Derives, derives, is_prefix}
use Rattle.stream_prefix.proofs.Joins.{emp_is_prefix, join_is_prefix}
use Rattle.bunch.specs.BunchTree.{leaf_names, as_type, stands_before}
use Rattle.bunch.specs.Names.{holds}
use Rattle.hist_value.specs.HistType.{past}
use Rattle.hist_value.specs.HistValue.{HasType as HasValueType}
use Rattle.event_word.specs.Admits.{Admits}
use Rattle.event_word.specs.StreamEvent.{StreamEvent}
use Rattle.event_word.specs.Word.{one_of, after_word, IsWord}
use Rattle.event_word.proofs.Words.{word_derives}
use Rattle.core_term.specs.Agreement.{types_in}
use Rattle.core_term.specs.CoreTerm.{fun_at, CoreProgram}
use Rattle.core_term.specs.Environment.{Environment, left_at}
use Rattle.core_term.specs.Inert.{is_inert_fun}
use Rattle.core_term.specs.Meaning.{run_at, mean, calls_of, program_run, no_past, horizon}
use Rattle.core_term.specs.Run.{Run}
use Rattle.core_term.specs.Split.{split, split_after}
use Rattle.core_term.proofs.Agreements.{order_of_tree}
use Rattle.core_term.proofs.Gathering.{split_agrees_in_tree, split_after_agrees}
use Rattle.core_term.proofs.Splits.{split_derives, split_after_derives, split_join}
use Rattle.core_term.proofs.TypedTerms.{Extends}
use Rattle.delta_state.specs.MachineView.{input_of}
use Rattle.delta_state.specs.Rest.{next_state, rest_at}
use Rattle.delta_state.specs.Stands.{StandsFor, input_type, output_left, context_after, rest_run, rest_mean, rest_calls, depth_after}
use Rattle.delta_state.specs.StateTree.{StateTree}
use Rattle.delta_state.specs.StateTyping.{no_pasts}
use Rattle.state_steps.specs.Laws.{IsRunnable, Begins, GoesOn, BeginsWord, GoesOnWord}
use Rattle.state_steps.proofs.FactsWithin.{within_itself}
use Rattle.state_steps.proofs.NarrowedStates.{narrow_state}
use Rattle.state_steps.proofs.RestsOfRuns.{Rest, rest_to}
use Rattle.state_steps.proofs.Inputs.{Inputs, left_type, left_context}
use Rattle.state_steps.proofs.Steps.{Step}
use Rattle.state_steps.proofs.CalledBodies.{body_context, extends_params}
use Rattle.state_steps.proofs.TermSteps.{term_step}
use Rattle.state_steps.proofs.CallSteps.{calls_step_at}
use Rattle.state_steps.proofs.SplitInputs.{bunch_is_split, first_is_part}
use Rattle.state_steps.proofs.LongerWords.{event_follows, word_with_event, prefix_with_event}
use Rattle.state_steps.proofs.SourceSteps.{pred_le, extends_types, Source, StandsForSource, gives_left, source_stands, source_answers}
use Rattle.state_steps.proofs.RunnablePrograms.{all_apart, main_apart, distinct_params, mean_derives, main_typed}

-- the types that p leaves of the parameters extend their context
pub extends_after : (c : CoreProgram) (p : StreamPrefix) → Extends (context_after c p) (left_at (split c.main.params p) (types_in c.main.params)) no_pasts
extends_after c p = extends_types c.main.params (left_at (split c.main.params p) (types_in c.main.params))

module _ (c : CoreProgram) (runnable : IsRunnable c) where
  -- a first input p of a program and what follows it, as the parameters see it
  inputs_at_start : (p q r : StreamPrefix) → Derives (as_type c.main.params) p → Derives (der p (as_type c.main.params)) q → Derives (der q (der p (as_type c.main.params))) r → Inputs (types_in c.main.params) (stands_before c.main.params) (split c.main.params p) (split_after c.main.params p q) (split_after c.main.params p (join q r))
  inputs_at_start p q r h k l = record {
    streams = record { at = split_derives c.main.params h };
    agrees = order_of_tree c.main.params (distinct_params c runnable) (split c.main.params p) (split_agrees_in_tree c.main.params (distinct_params c runnable) h);
    next = record { at = split_after_derives c.main.params h k };
    more = record { at = first_is_part c.main.params h k l };
  }

  module _ (n : ℕ) (p : StreamPrefix) (h : Derives (as_type c.main.params) p) (le : calls_of c p + n ≤ horizon) where
    -- the step of main's body on a first input p,
    begun : (q r : StreamPrefix) → Derives (der p (as_type c.main.params)) q → Derives (der q (der p (as_type c.main.params))) r
        → Step c.funs n (types_in c.main.params) (body_context c.main) c.main.result (λ v. run_at (fun_at c.funs) horizon c.main.body (types_in c.main.params) c.main.result v no_past) (rest_at (fun_at c.funs) horizon c.main.body (types_in c.main.params) c.main.result (split c.main.params p) [])
        (split c.main.params p) (split_after c.main.params p q) (split_after c.main.params p (join q r))
    begun q r k l =
        let m : n ≤ horizon = omega (arith, le) in
        term_step c.funs runnable.is_typed.funs_typed horizon n m (calls_step_at c.funs runnable.is_typed.funs_typed (all_apart c runnable) n horizon) c.main.body (body_context c.main) (types_in c.main.params) [] c.main.result
        (record { extends = extends_params c.main; typed = main_typed c runnable; apart = main_apart c runnable; known = All-nil (λ e. HasValueType (past e.type) e.value) })
        (split c.main.params p) (split_after c.main.params p q) (split_after c.main.params p (join q r)) (inputs_at_start p q r h k l) le

    -- as runs of the program and of the state that is left
    begun_rest : (q r : StreamPrefix) → Derives (der p (as_type c.main.params)) q → Derives (der q (der p (as_type c.main.params))) r
        → Rest c.main.result (program_run c p) (program_run c (join p q)) (program_run c (join p (join q r))) (rest_run c p (rest_at (fun_at c.funs) horizon c.main.body (types_in c.main.params) c.main.result (split c.main.params p) []) q) (rest_run c p (rest_at (fun_at c.funs) horizon c.main.body (types_in c.main.params) c.main.result (split c.main.params p) []) (join q r))
    begun_rest q r k l =
        let M : Environment → Run = λ v. run_at (fun_at c.funs) horizon c.main.body (types_in c.main.params) c.main.result v no_past in
        rest_to (begun q r k l).gives (ap M (λ i x. split_join c.main.params h k x i)) (ap M (λ i x. split_join c.main.params h (join_is_prefix k l) x i)) refl refl

    -- the state left of main after a first input stands for the program
    pub first_stands : StandsFor c n p (rest_at (fun_at c.funs) horizon c.main.body (types_in c.main.params) c.main.result (split c.main.params p) [])
    first_stands =
        let e = emp_is_prefix (der p (as_type c.main.params)) in
        let st = begun (emp (der p (as_type c.main.params))) _ e (emp_is_prefix _) in
        record {
          is_typed = narrow_state c.funs (is_inert_fun c.funs) _ (left_context (split c.main.params p) (body_context c.main)) (context_after c p) (output_left c p)
              (record { types = λ x s m k. types x s (holds x (leaf_names c.main.params)) k; order = within_itself _ _; past = λ x t k. k }) st.typed;
          settled = st.settled;
          is_deep = st.deep;
          gives_rest = λ q k. (begun_rest q _ (derives _ q k) (emp_is_prefix _)).joins;
          calls_rest = λ q k. (begun_rest q _ (derives _ q k) (emp_is_prefix _)).calls;
          calls_rise = λ q r k l. (begun_rest q r (derives _ q k) (derives _ r l)).beyond;
          levels_below = λ q k. pred_le _ _ (begun_rest q _ (derives _ q k) (emp_is_prefix _)).level;
        }
      where
        types : (x : ℕ) (s : StreamType) (i : Bool) → left_type (split c.main.params p x) (if i then Some (types_in c.main.params x) else None) ≡ Some s → (if i then Some (left_at (split c.main.params p) (types_in c.main.params) x) else None) ≡ Some s
        types x s true k = k
        types x s false k = k

  -- a program is a source
  abbrev program_source : Source c
  program_source = record {
    input = input_type c;
    types = types_in c.main.params;
    output = c.main.result;
    run = program_run c;
    before = split c.main.params;
    after = split_after c.main.params;
    is_split = bunch_is_split c.main.params;
    agrees = λ h k. split_after_agrees c.main.params (distinct_params c runnable) _ _ (is_prefix h) (is_prefix k);
    gives = λ h. mean_derives c runnable _ h;
  }

  -- what stands for a program stands for it as a source,
  stands_as_source : {n : ℕ} {p : StreamPrefix} {s : StateTree} → StandsFor c n p s → StandsForSource c program_source n p s
  stands_as_source h = record { is_typed = h.is_typed; settled = h.settled; is_deep = h.is_deep; gives_rest = h.gives_rest; calls_rest = h.calls_rest; calls_rise = h.calls_rise; levels_below = h.levels_below }

  -- and the other way round
  stands_as_program : {n : ℕ} {p : StreamPrefix} {s : StateTree} → StandsForSource c program_source n p s → StandsFor c n p s
  stands_as_program h = record { is_typed = h.is_typed; settled = h.settled; is_deep = h.is_deep; gives_rest = h.gives_rest; calls_rest = h.calls_rest; calls_rise = h.calls_rise; levels_below = h.levels_below }

  -- what a state that stands for a program gives is a prefix of what is left of the result
  pub rest_is_left : (n : ℕ) (p d : StreamPrefix) (s : StateTree) → Derives (as_type c.main.params) p → Derives (der p (as_type c.main.params)) d → StandsFor c n p s → Derives (der (mean c p) c.main.result) (rest_mean c p s d)
  rest_is_left n p d s h k stands = gives_left c runnable program_source n p d s h k (stands_as_source stands)

  module _ (n m : ℕ) (p d : StreamPrefix) (s : StateTree) (h : Derives (as_type c.main.params) p) (k : Derives (der p (as_type c.main.params)) d) (stands : StandsFor c n p s) (le : rest_calls c p s d + m ≤ n) where
    -- the state that follows stands for the program after p and d,
    pub next_stands : StandsFor c m (join p d) (next_state c p s d)
    next_stands = stands_as_program (source_stands c runnable program_source n m p d s h k (stands_as_source stands) le)

    -- and what s gave on d is the increment
    pub next_answers : rest_mean c p s d ≡ increment (mean c p) (mean c (join p d))
    next_answers = source_answers c runnable program_source n m p d s h k (stands_as_source stands) le

module _ (c : CoreProgram) (w : List StreamEvent) (x : StreamEvent) (word : IsWord (input_type c) w) (admits : Admits (after_word w (input_type c)) x) where
  -- an event that is admitted after a word is a prefix of what is left of the program's input,
  pub event_derives : Derives (der (input_of c w) (input_type c)) (one_of x (after_word w (input_type c)))
  event_derives = event_follows (input_type c) w x word admits

  -- and the word with it is what came and then what the event is
  pub input_after : input_of c (w ++ x ∷ []) ≡ join (input_of c w) (one_of x (after_word w (input_type c)))
  input_after = prefix_with_event (input_type c) w x word admits

-- the laws
pub begins : Begins
begins c n runnable le = first_stands c runnable n (emp (input_type c)) (emp_is_prefix (input_type c)) le

pub goes_on : GoesOn
goes_on c n m p d s runnable h k stands le =
    let i = derives (input_type c) p h in
    let j = derives (der p (input_type c)) d k in
    (next_stands c runnable n m p d s i j stands le, next_answers c runnable n m p d s i j stands le)

pub begins_word : BeginsWord
unfolding horizon
begins_word c runnable le = begins c (depth_after 0) runnable (omega (arith, le))

pub goes_on_word : GoesOnWord
goes_on_word c w x s runnable word admits room stands le =
    let p = input_of c w in
    let d = one_of x (after_word w (input_type c)) in
    let n = depth_after (length w) in
    let m = depth_after (suc (length w)) in
    let h = word_derives (input_type c) w word in
    let k = event_derives c w x word admits in
    let deep : rest_calls c p s d + m ≤ n = omega (arith, le, room) in
    let joined : input_of c (w ++ x ∷ []) ≡ join p d = input_after c w x word admits in
    record {
      is_word = word_with_event (input_type c) w x word admits;
      stands_for = subst (λ q. StandsFor c m q (next_state c p s d)) (sym joined) (next_stands c runnable n m p d s h k stands deep);
      answers = next_answers c runnable n m p d s h k stands deep ∙ ap (λ q. increment (mean c p) (mean c q)) (sym joined);
    }
