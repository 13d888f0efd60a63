-- The step theorem read on a kept state: it stands for itself, and so does what follows.
use Rattle.std.proofs.Common.{◌≡◌, ◌∙◌, ◌≤◌, ◌+◌, ℕ, suc, [], ◌∷◌, ◌++◌, length, ap, ap₂, subst, sym, arith, length-append}
use Rattle.std.specs.Prelude.{pred}
use Rattle.stream_prefix.specs.StreamPrefix.{StreamPrefix, emp, der, join, IsPrefix}
use Rattle.stream_prefix.specs.Increment.{increment}
use Rattle.stream_prefix.proofs.Derivations.{Derives, derives}
use Rattle.stream_prefix.proofs.Joins.{emp_is_prefix, der-emp, join-emp, join_is_prefix}
use Rattle.event_word.specs.Word.{one_of, after_word, pre}
use Rattle.event_word.proofs.Words.{word_derives}
use Rattle.core_term.specs.CoreTerm.{CoreProgram, fun_at}
use Rattle.core_term.specs.Inert.{is_inert_fun}
use Rattle.core_term.specs.Run.{Run}
use Rattle.delta_state.specs.StateTree.{StateTree}
use Rattle.delta_state.specs.StateMeaning.{run_state}
use Rattle.delta_state.specs.StateTyping.{HasStateType, no_pasts}
use Rattle.delta_state.specs.Settled.{is_settled}
use Rattle.delta_state.specs.Stands.{depth_after}
use Rattle.delta_state.specs.Laws.{GivesNothing}
use Rattle.delta_state.proofs.SettledStates.{settled_nothing}
use Rattle.state_steps.specs.Laws.{IsRunnable}
use Rattle.state_steps.proofs.SplitInputs.{IsSplit}
use Rattle.state_steps.proofs.LongerWords.{event_follows, word_with_event, prefix_with_event}
use Rattle.state_steps.proofs.SourceSteps.{extends_types, state_gives, Source, StandsForSource, source_stands, source_answers}
use Rattle.state_steps.proofs.RunnablePrograms.{distinct_params}
use Rattle.kept_state.specs.KeptTree.{KeptTree}
use Rattle.kept_state.specs.KeptPlace.{context_over}
use Rattle.kept_state.specs.KeptTyping.{types_kept, context_kept, IsTypedKept}
use Rattle.kept_state.specs.KeptMeaning.{input_kept, split_kept, split_kept_after, run_kept, mean_kept, calls_kept, level_kept, types_since, output_since, rest_run_kept, rest_mean_kept, rest_calls_kept, next_kept, StandsForKept}
use Rattle.kept_state.specs.Laws.{Resumes, GoesOnKept, GoesOnKeptWord, ResumesWord}
use Rattle.kept_state.proofs.RestSplits.{rest_empty, rest_is_split, rest_agrees}

module _ (c : CoreProgram) (runnable : IsRunnable c) (k : KeptTree) (typed : IsTypedKept c k) where
  -- its input is split over the names of main's parameters
  kept_is_split : IsSplit (input_kept c k) (types_kept c k) (split_kept c k) (split_kept_after c k)
  kept_is_split = rest_is_split c.main.params (types_kept c k) k.cuts

  -- and what it gives is a prefix of what is left of the output
  pub kept_derives : {p : StreamPrefix} → Derives (input_kept c k) p → Derives k.out (mean_kept c k p)
  kept_derives {p = p} h = state_gives c runnable k.state (types_kept c k) k.out (split_kept c k p) typed.is_typed (record { at = kept_is_split.before_derives h })

  -- before anything more has come it gives nothing, and makes no call,
  nothing : GivesNothing k.out (run_kept c k (emp (input_kept c k)))
  nothing =
      settled_nothing c.funs (is_inert_fun c.funs) k.state (context_kept c k) (types_kept c k) no_pasts k.out (extends_types c.main.params (types_kept c k)) typed.is_typed typed.settled (split_kept c k (emp (input_kept c k)))
      (record { at = λ x m. ap (λ e. e x) (rest_empty c.main.params (types_kept c k) k.cuts) })

  -- all of the types that it kept are left,
  types_first : types_since c k (emp (input_kept c k)) ≡ types_kept c k
  types_first = λ i x. (ap (λ e. der (e x) (types_kept c k x)) (rest_empty c.main.params (types_kept c k) k.cuts) ∙ der-emp (types_kept c k x)) i

  -- and all of the output,
  output_first : output_since c k (emp (input_kept c k)) ≡ k.out
  output_first = ap (λ p. der p k.out) nothing.out ∙ der-emp k.out

  -- what comes after nothing is all that comes,
  after_first : {q : StreamPrefix} → Derives (input_kept c k) q → split_kept_after c k (emp (input_kept c k)) q ≡ split_kept c k q
  after_first {q = q} h = λ i x. at x i
    where
      behind : Derives (der (emp (input_kept c k)) (input_kept c k)) q
      behind = subst (λ t. Derives t q) (sym (der-emp (input_kept c k))) h

      at : (x : ℕ) → split_kept_after c k (emp (input_kept c k)) q x ≡ split_kept c k q x
      at x =
          let e = ap (λ e. e x) (rest_empty c.main.params (types_kept c k) k.cuts) in
          let w = subst (λ t. Derives t (split_kept_after c k (emp (input_kept c k)) q x)) (ap (λ T. T x) types_first) (kept_is_split.after_derives (emp_is_prefix (input_kept c k)) behind x) in
          sym (ap (λ p. split_kept c k p x) (sym (join-emp h)) ∙ (kept_is_split.joins (emp_is_prefix (input_kept c k)) behind x ∙ (ap (λ p. join p (split_kept_after c k (emp (input_kept c k)) q x)) e ∙ join-emp w)))

  -- so the run of its state after nothing is its own
  run_first : {q : StreamPrefix} → Derives (input_kept c k) q → rest_run_kept c k (emp (input_kept c k)) k.state q ≡ run_kept c k q
  run_first {q = q} h =
      ap₂ (λ T r. run_state (fun_at c.funs) k.state T r (split_kept_after c k (emp (input_kept c k)) q)) types_first output_first
      ∙ ap (run_state (fun_at c.funs) k.state (types_kept c k) k.out) (after_first h)

  -- what may come after nothing is what may come
  at_first : {q : StreamPrefix} → IsPrefix (der (emp (input_kept c k)) (input_kept c k)) q → Derives (input_kept c k) q
  at_first {q = q} i = subst (λ t. Derives t q) (der-emp (input_kept c k)) (derives _ q i)

  -- its state stands for it
  pub first_stands : StandsForKept c k (depth_after k.events) (emp (input_kept c k)) k.state
  first_stands = record {
    is_typed = subst (λ T. HasStateType c.funs (is_inert_fun c.funs) (context_over c.main.params T) k.state (output_since c k (emp (input_kept c k)))) (sym types_first)
        (subst (HasStateType c.funs (is_inert_fun c.funs) (context_kept c k) k.state) (sym output_first) typed.is_typed);
    settled = ap (is_settled k.state) output_first ∙ typed.settled;
    is_deep = typed.is_deep;
    gives_rest = λ q i.
        let h = at_first i in
        ap (mean_kept c k) (join-emp h) ∙ (sym (join-emp (kept_derives h)) ∙ ap₂ join (sym nothing.out) (ap (λ a. a.out) (sym (run_first h))));
    calls_rest = λ q i.
        let h = at_first i in
        let e = ap (calls_kept c k) (join-emp h) in
        let f = ap (λ a. a.calls) (run_first h) in
        let g = nothing.calls in
        omega (arith, e, f, g);
    calls_rise = λ q r i j.
        let h = at_first i in
        let l = subst (λ t. Derives (der q t) r) (der-emp (input_kept c k)) (derives _ r j) in
        let h' = join_is_prefix h l in
        let e = ap (calls_kept c k) (join-emp h) in
        let e' = ap (calls_kept c k) (join-emp h') in
        let f = ap (λ a. a.calls) (run_first h) in
        let f' = ap (λ a. a.calls) (run_first h') in
        omega (arith, e, e', f, f');
    levels_below = λ q i.
        let h = at_first i in
        let e = ap (level_kept c k) (join-emp h) in
        let f = ap (λ a. pred (Run.level a)) (run_first h) in
        omega (arith, e, f);
  }

  -- so a kept state is a source
  abbrev kept_source : Source c
  kept_source = record {
    input = input_kept c k;
    types = types_kept c k;
    output = k.out;
    run = run_kept c k;
    before = split_kept c k;
    after = split_kept_after c k;
    is_split = kept_is_split;
    agrees = λ h i. rest_agrees c.main.params (types_kept c k) k.cuts (distinct_params c runnable) typed.is_placed.is_place h i;
    gives = kept_derives;
  }

  -- what stands for it stands for it as a source,
  stands_as_source : {n : ℕ} {p : StreamPrefix} {s : StateTree} → StandsForKept c k n p s → StandsForSource c kept_source n p s
  stands_as_source h = record { is_typed = h.is_typed; settled = h.settled; is_deep = h.is_deep; gives_rest = h.gives_rest; calls_rest = h.calls_rest; calls_rise = h.calls_rise; levels_below = h.levels_below }

  -- and the other way round
  stands_as_kept : {n : ℕ} {p : StreamPrefix} {s : StateTree} → StandsForSource c kept_source n p s → StandsForKept c k n p s
  stands_as_kept h = record { is_typed = h.is_typed; settled = h.settled; is_deep = h.is_deep; gives_rest = h.gives_rest; calls_rest = h.calls_rest; calls_rise = h.calls_rise; levels_below = h.levels_below }

  module _ (n m : ℕ) (p d : StreamPrefix) (s : StateTree) (h : Derives (input_kept c k) p) (i : Derives (der p (input_kept c k)) d) (stands : StandsForKept c k n p s) (le : rest_calls_kept c k p s d + m ≤ n) where
    -- the state that follows stands for the kept state after p and d,
    pub next_stands : StandsForKept c k m (join p d) (next_kept c k p s d)
    next_stands = stands_as_kept (source_stands c runnable kept_source n m p d s h i (stands_as_source stands) le)

    -- and what s gave on d is the increment
    pub next_answers : rest_mean_kept c k p s d ≡ increment (mean_kept c k p) (mean_kept c k (join p d))
    next_answers = source_answers c runnable kept_source n m p d s h i (stands_as_source stands) le

-- the laws
pub resumes : Resumes
resumes c k runnable typed = first_stands c runnable k typed

pub goes_on_kept : GoesOnKept
goes_on_kept c k n m p d s runnable typed h i stands le =
    let j = derives (input_kept c k) p h in
    let l = derives (der p (input_kept c k)) d i in
    (next_stands c runnable k typed n m p d s j l stands le, next_answers c runnable k typed n m p d s j l stands le)

pub resumes_word : ResumesWord
resumes_word c k runnable typed = subst (λ n. StandsForKept c k (depth_after n) (emp (input_kept c k)) k.state) (let e : k.events ≡ k.events + 0 = omega arith in e) (first_stands c runnable k typed)

pub goes_on_kept_word : GoesOnKeptWord
goes_on_kept_word c k w x s runnable typed word admits room stands le =
    let S = input_kept c k in
    let p = pre S w in
    let d = one_of x (after_word w S) in
    let n = depth_after (k.events + length w) in
    let m = depth_after (k.events + suc (length w)) in
    let h = word_derives S w word in
    let i = event_follows S w x word admits in
    let deep : rest_calls_kept c k p s d + m ≤ n = omega (arith, le, room) in
    let joined : pre S (w ++ x ∷ []) ≡ join p d = prefix_with_event S w x word admits in
    let long : length (w ++ x ∷ []) ≡ suc (length w) = length-append w (x ∷ []) ∙ (let e : length w + 1 ≡ suc (length w) = omega arith in e) in
    record {
      is_word = word_with_event S w x word admits;
      stands_for = subst (λ l. StandsForKept c k (depth_after (k.events + l)) (pre S (w ++ x ∷ [])) (next_kept c k p s d)) (sym long)
          (subst (λ q. StandsForKept c k m q (next_kept c k p s d)) (sym joined) (next_stands c runnable k typed n m p d s h i stands deep));
      answers = next_answers c runnable k typed n m p d s h i stands deep ∙ ap (λ q. increment (mean_kept c k p) (mean_kept c k q)) (sym joined);
    }
