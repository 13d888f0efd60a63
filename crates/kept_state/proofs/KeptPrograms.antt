-- What is kept of a program is typed, and goes on just as the program; and what stands for what is kept stands for
-- the program.
use Rattle.std.proofs.Common.{◌≡◌, ◌∙◌, ◌≤◌, ◌+◌, ◌^◌, ℕ, ap, ap₂, refl, subst, sym, arith}
use Rattle.std.proofs.lemmas.List.{length-map}
use Rattle.std.specs.Prelude.{pred}
use Rattle.stream_prefix.specs.StreamPrefix.{StreamPrefix, der, join}
use Rattle.stream_prefix.proofs.Derivations.{Derives, derives, is_prefix}
use Rattle.stream_prefix.proofs.Joins.{der-join, join_assoc, join_is_prefix, join_cancel, reach_of-der}
use Rattle.bunch.specs.BunchTree.{as_type, leaf_names}
use Rattle.core_term.specs.CoreTerm.{CoreProgram, fun_at}
use Rattle.core_term.specs.Agreement.{types_in}
use Rattle.core_term.specs.Environment.{NameTypes, left_at}
use Rattle.core_term.specs.Inert.{is_inert_fun}
use Rattle.core_term.specs.Meaning.{mean, calls_of, level_of}
use Rattle.core_term.specs.Run.{Run}
use Rattle.core_term.specs.Split.{split, split_after}
use Rattle.core_term.proofs.GrowingRuns.{Streams}
use Rattle.core_term.proofs.Splits.{split_after_derives}
use Rattle.delta_state.specs.PlaceTree.{cuts_of}
use Rattle.delta_state.specs.StateTree.{StateTree}
use Rattle.delta_state.specs.StateMeaning.{run_state}
use Rattle.delta_state.specs.StateTyping.{HasStateType}
use Rattle.delta_state.specs.Settled.{is_settled}
use Rattle.delta_state.specs.Stands.{StandsFor, input_type, output_left, context_after, rest_run, rest_mean, rest_calls, rest_level, depth_after}
use Rattle.state_steps.specs.Laws.{IsRunnable}
use Rattle.state_steps.proofs.RunnablePrograms.{distinct_params, mean_derives}
use Rattle.state_steps.proofs.SplitInputs.{split_after_join, left_after}
use Rattle.state_steps.proofs.SourceSteps.{state_gives}
use Rattle.kept_state.specs.KeptTree.{KeptTree}
use Rattle.kept_state.specs.KeptNames.{IsTidy}
use Rattle.kept_state.specs.KeptPlace.{rest_bunch, IsPlace, split_rest, context_over}
use Rattle.kept_state.specs.KeptTyping.{types_kept}
use Rattle.kept_state.specs.KeptMeaning.{input_kept, split_kept, split_kept_after, run_kept, mean_kept, types_since, output_since, rest_run_kept, StandsForKept, kept_at}
use Rattle.kept_state.specs.Laws.{IsKept, Keeps, StandsThrough}
use Rattle.kept_state.proofs.InputPlaces.{cuts_length, input_place, input_rest, kept_types, kept_split}
use Rattle.kept_state.proofs.RestSplits.{rest_join, rest_after_derives}

module _ (c : CoreProgram) (runnable : IsRunnable c) (p : StreamPrefix) (h : Derives (input_type c) p) (events : ℕ) (s : StateTree) where
  -- what is left of the types of main's parameters
  abbrev T : NameTypes
  T = left_at (split c.main.params p) (types_in c.main.params)

  -- the types that are kept are these,
  types_same : types_kept c (kept_at c p events s) ≡ left_at (split c.main.params p) (types_in c.main.params)
  types_same = kept_types c.main.params (distinct_params c runnable) h

  -- the input of what is kept is what is left of the program's,
  pub input_same : input_kept c (kept_at c p events s) ≡ der p (input_type c)
  input_same = ap (λ U. as_type (rest_bunch c.main.params U (cuts_of c.main.params p))) types_same ∙ input_rest c.main.params (distinct_params c runnable) T h (record { at = λ x m. refl })

  -- it is split over the parameters as the program's,
  split_same : {q : StreamPrefix} → Derives (der p (input_type c)) q → split_kept c (kept_at c p events s) q ≡ split_after c.main.params p q
  split_same {q = q} j = ap (λ U. split_rest c.main.params U (cuts_of c.main.params p) q) types_same ∙ kept_split c.main.params (distinct_params c runnable) h j

  -- and what is kept runs as the state does after p
  run_same : {q : StreamPrefix} → Derives (der p (input_type c)) q → run_kept c (kept_at c p events s) q ≡ rest_run c p s q
  run_same {q = q} j = ap₂ (λ U e. run_state (fun_at c.funs) s U (output_left c p) e) types_same (split_same j)

  -- so what is kept goes on just as the program
  pub is_kept : events ≤ 2 ^ 41 → StandsFor c (depth_after events) p s → IsTidy (leaf_names c.main.params) s → IsKept c p (kept_at c p events s)
  is_kept few stands tidy = record {
    is_typed = record {
      is_placed = record {
        are_few = few;
        reaches = reach_of-der (mean_derives c runnable p h);
        has_types = length-map (leaf_names c.main.params) (left_at (split c.main.params p) (types_in c.main.params));
        has_cuts = cuts_length c.main.params p;
        is_place = subst (λ U. IsPlace c.main.params U (cuts_of c.main.params p)) (sym types_same) (input_place c.main.params (distinct_params c runnable) T h (record { at = λ x m. refl }));
      };
      is_typed = subst (λ U. HasStateType c.funs (is_inert_fun c.funs) (context_over c.main.params U) s (output_left c p)) (sym types_same) stands.is_typed;
      are_apart = tidy.are_apart;
      settled = stands.settled;
      is_deep = stands.is_deep;
    };
    has_input = input_same;
    gives = λ q i. stands.gives_rest q i ∙ ap (join (mean c p)) (ap (λ a. a.out) (sym (run_same (derives _ q i))));
    calls = λ q i. let e = ap (λ a. a.calls) (run_same (derives _ q i)) in let o = stands.calls_rest q i in omega (arith, e, o);
    calls_rise = λ q r i j.
        let l = derives _ q i in
        let e = ap (λ a. a.calls) (run_same l) in
        let f = ap (λ a. a.calls) (run_same (join_is_prefix l (derives _ r j))) in
        let o = stands.calls_rise q r i j in
        omega (arith, e, f, o);
    levels = λ q i. let e = ap (λ a. pred (Run.level a)) (run_same (derives _ q i)) in let o = stands.levels_below q i in omega (arith, e, o);
  }

  module _ (n m : ℕ) (q : StreamPrefix) (j : Derives (der p (input_type c)) q) (t : StateTree) (stands : StandsFor c m p s) (kept : StandsForKept c (kept_at c p events s) n q t) where
    -- what is kept
    abbrev k : KeptTree
    k = kept_at c p events s

    -- after both, of the parameters' types the same is left,
    types_both : left_at (split c.main.params (join p q)) (types_in c.main.params) ≡ types_since c (kept_at c p events s) q
    types_both = (λ i x. left_after c.main.params h j x i) ∙ ap₂ left_at (sym (split_same j)) (sym types_same)

    -- the program gives what it gave, and then what is kept gave,
    mean_both : mean c (join p q) ≡ join (mean c p) (mean_kept c (kept_at c p events s) q)
    mean_both = stands.gives_rest q (is_prefix j) ∙ ap (join (mean c p)) (ap (λ a. a.out) (sym (run_same j)))

    -- which is a prefix of what was left of the output,
    mean_then : Derives (output_left c p) (mean_kept c (kept_at c p events s) q)
    mean_then =
        let w : Streams T (split_after c.main.params p q) = record { at = split_after_derives c.main.params h j } in
        subst (Derives (output_left c p)) (ap (λ a. a.out) (sym (run_same j)))
        (state_gives c runnable s T (output_left c p) (split_after c.main.params p q) stands.is_typed w)

    -- and of the output the same is left
    output_both : output_left c (join p q) ≡ output_since c (kept_at c p events s) q
    output_both = ap (λ w. der w c.main.result) mean_both ∙ der-join (mean_derives c runnable p h) mean_then

    -- what comes after p and q comes after q, once p has come,
    behind : {v : StreamPrefix} → Derives (der (join p q) (input_type c)) v → Derives (der q (der p (input_type c))) v
    behind {v = v} l = subst (λ u. Derives u v) (der-join h j) l

    -- and so of what is kept,
    at_kept : {v : StreamPrefix} → Derives (der q (der p (input_type c))) v → Derives (der q (input_kept c (kept_at c p events s))) v
    at_kept {v = v} l = subst (λ u. Derives (der q u) v) (sym input_same) l

    -- of whose input q is a prefix
    first_kept : Derives (input_kept c (kept_at c p events s)) q
    first_kept = subst (λ u. Derives u q) (sym input_same) j

    -- each parameter has the same of what comes after both,
    after_both : {v : StreamPrefix} → Derives (der (join p q) (input_type c)) v → (x : ℕ) → split_after c.main.params (join p q) v x ≡ split_kept_after c (kept_at c p events s) q v x
    after_both {v = v} l x =
        let b = c.main.params in
        let A = split_after b p q x in
        let X = split_after b (join p q) v x in
        let Y = split_kept_after c k q v x in
        let t1 = left_at (split b p) (types_in b) x in
        let dA = split_after_derives b h j x in
        let dX : Derives (der A t1) X = subst (λ u. Derives u X) (left_after b h j x) (split_after_derives b (join_is_prefix h j) l x) in
        let dY : Derives (der A t1) Y = subst (λ u. Derives u Y) (sym (ap (λ U. U x) types_both) ∙ left_after b h j x) (rest_after_derives b (types_kept c k) k.cuts first_kept (at_kept (behind l)) x) in
        let e1 : split_after b p (join q v) x ≡ join A X = split_after_join b h j (behind l) x in
        let e2 : split_kept c k (join q v) x ≡ join (split_kept c k q x) Y = rest_join b (types_kept c k) k.cuts first_kept (at_kept (behind l)) x in
        let f1 : split_kept c k (join q v) x ≡ split_after b p (join q v) x = ap (λ e. e x) (split_same (join_is_prefix j (behind l))) in
        let f2 : split_kept c k q x ≡ A = ap (λ e. e x) (split_same j) in
        join_cancel dA dX dY (sym e1 ∙ (sym f1 ∙ (e2 ∙ ap (λ w. join w Y) f2)))

    -- so the state t runs on it as it does for what is kept,
    run_both : {v : StreamPrefix} → Derives (der (join p q) (input_type c)) v → rest_run c (join p q) t v ≡ rest_run_kept c (kept_at c p events s) q t v
    run_both {v = v} l =
        ap₂ (λ U r. run_state (fun_at c.funs) t U r (split_after c.main.params (join p q) v)) types_both output_both
        ∙ ap (run_state (fun_at c.funs) t (types_since c (kept_at c p events s) q) (output_since c (kept_at c p events s) q)) (λ i x. after_both l x i)

    -- and is typed for the program
    typed_both : HasStateType c.funs (is_inert_fun c.funs) (context_after c (join p q)) t (output_left c (join p q))
    typed_both =
        subst (HasStateType c.funs (is_inert_fun c.funs) (context_over c.main.params (left_at (split c.main.params (join p q)) (types_in c.main.params))) t) (sym output_both)
        (subst (λ U. HasStateType c.funs (is_inert_fun c.funs) (context_over c.main.params U) t (output_since c (kept_at c p events s) q)) (sym types_both) kept.is_typed)

    -- what it gives is a prefix of what is left of the output
    rest_derives : {v : StreamPrefix} → Derives (der (join p q) (input_type c)) v → Derives (output_left c (join p q)) (rest_mean c (join p q) t v)
    rest_derives {v = v} l =
        let b = c.main.params in
        let U = left_at (split b (join p q)) (types_in b) in
        let w : Streams U (split_after b (join p q) v) = record { at = split_after_derives b (join_is_prefix h j) l } in
        state_gives c runnable t U (output_left c (join p q)) (split_after b (join p q) v) typed_both w

    -- what is kept runs on what comes after q as s does
    kept_more : {v : StreamPrefix} → Derives (der (join p q) (input_type c)) v → run_kept c (kept_at c p events s) (join q v) ≡ rest_run c p s (join q v)
    kept_more l = run_same (join_is_prefix j (behind l))

    -- so t stands for the program after both
    pub through : StandsFor c n (join p q) t
    through = record {
      is_typed = typed_both;
      settled = ap (is_settled t) output_both ∙ kept.settled;
      is_deep = kept.is_deep;
      gives_rest = λ v i.
          let l = derives _ v i in
          let inner = kept.gives_rest v (is_prefix (at_kept (behind l))) in
          let dr : Derives (der (mean_kept c k q) (output_left c p)) (rest_mean c (join p q) t v) = subst (λ u. Derives u (rest_mean c (join p q) t v)) output_both (rest_derives l) in
          ap (mean c) (join_assoc h j (behind l))
          ∙ (stands.gives_rest (join q v) (is_prefix (join_is_prefix j (behind l)))
          ∙ (ap (join (mean c p)) (ap (λ a. a.out) (sym (kept_more l)) ∙ (inner ∙ ap (join (mean_kept c k q)) (ap (λ a. a.out) (sym (run_both l)))))
          ∙ (sym (join_assoc (mean_derives c runnable p h) mean_then dr) ∙ ap (λ w. join w (rest_mean c (join p q) t v)) (sym mean_both))));
      calls_rest = λ v i.
          let l = derives _ v i in
          let a = kept.calls_rest v (is_prefix (at_kept (behind l))) in
          let b = stands.calls_rise q v (is_prefix j) (is_prefix (behind l)) in
          let e = ap (λ a. a.calls) (run_same j) in
          let f = ap (λ a. a.calls) (kept_more l) in
          let g = ap (λ a. a.calls) (run_both l) in
          subst (λ w. calls_of c (join p q) + rest_calls c (join p q) t v ≤ calls_of c w) (sym (join_assoc h j (behind l))) (omega (arith, a, b, e, f, g));
      calls_rise = λ v r i o.
          let l = derives _ v i in
          let l' = join_is_prefix l (derives _ r o) in
          let u : Derives (der v (der q (der p (input_type c)))) r = subst (λ w. Derives (der v w) r) (der-join h j) (derives _ r o) in
          let a = kept.calls_rise v r (is_prefix (at_kept (behind l))) (is_prefix (subst (λ w. Derives (der v (der q w)) r) (sym input_same) u)) in
          let m : join (join q v) r ≡ join q (join v r) = join_assoc j (behind l) u in
          let b = subst (λ w. calls_of c (join p (join q v)) + rest_calls c p s w ≤ calls_of c (join p w) + rest_calls c p s (join q v)) m
          (stands.calls_rise (join q v) r (is_prefix (join_is_prefix j (behind l))) (is_prefix (subst (λ w. Derives w r) (sym (der-join j (behind l))) u))) in
          let e = ap (λ a. a.calls) (kept_more l) in
          let f = ap (λ a. a.calls) (kept_more l') in
          let g = ap (λ a. a.calls) (run_both l) in
          let g' = ap (λ a. a.calls) (run_both l') in
          subst (λ w. calls_of c w + rest_calls c (join p q) t (join v r) ≤ calls_of c (join (join p q) (join v r)) + rest_calls c (join p q) t v) (sym (join_assoc h j (behind l)))
          (subst (λ w. calls_of c (join p (join q v)) + rest_calls c (join p q) t (join v r) ≤ calls_of c w + rest_calls c (join p q) t v) (sym (join_assoc h j (behind l'))) (omega (arith, a, b, e, f, g, g')));
      levels_below = λ v i.
          let l = derives _ v i in
          let a = kept.levels_below v (is_prefix (at_kept (behind l))) in
          let b = stands.levels_below (join q v) (is_prefix (join_is_prefix j (behind l))) in
          let f = ap (λ a. pred (Run.level a)) (kept_more l) in
          let g = ap (λ a. pred (Run.level a)) (run_both l) in
          subst (λ w. rest_level c (join p q) t v ≤ level_of c w) (sym (join_assoc h j (behind l))) (omega (arith, a, b, f, g));
    }

-- the laws
pub keeps : Keeps
keeps c p events s runnable h few stands tidy = is_kept c runnable p (derives _ p h) events s few stands tidy

pub stands_through : StandsThrough
stands_through c p q events n s t runnable h i stands kept = through c runnable p (derives _ p h) events s n n q (derives _ q i) t stands kept
