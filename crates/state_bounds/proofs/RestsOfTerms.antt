-- What is left of a term holds no more than the term can.
use Rattle.std.proofs.Common.{◌≡◌, ◌∙◌, ◌≤◌, ⊎_elim, ℕ, zero, suc, Bool, true, false, true≢false, List, [], ◌∷◌, if◌then◌else◌, ap, refl, subst, sym, arith}
use Rattle.std.specs.Prelude.{Some}
use Rattle.std.specs.List.{All}
use Rattle.stream_type.specs.StreamType.{StreamType, cat, par, star}
use Rattle.stream_prefix.specs.StreamPrefix.{StreamPrefix, eps_emp, emp, is_maximal, der}
use Rattle.stream_prefix.proofs.Derivations.{Derives, is_prefix}
use Rattle.bunch.specs.Names.{put, value_at}
use Rattle.bunch.specs.BunchTree.{leaf_names, stands_before}
use Rattle.bunch.specs.Facts.{Facts, place_like, place_let, put_before}
use Rattle.hist_value.specs.HistType.{past as past_type}
use Rattle.hist_value.specs.HistValue.{HistValue, unit_value}
use Rattle.hist_value.specs.Wholes.{value_of}
use Rattle.hist_value.specs.Laws.{HasTypes}
use Rattle.hist_value.proofs.WholeLaws.{value_has_past}
use Rattle.core_term.specs.CoreTerm.{CoreTerm, CoreTerms, CoreBody, case_sum_term, case_star_term, wait_term, leaf_types, past_names, past_types, no_body, fun_at}
use Rattle.core_term.specs.FreeNames.{free_names, free_in_terms, without, once}
use Rattle.core_term.specs.Environment.{Environment, NameTypes}
use Rattle.core_term.specs.Agreement.{Agrees, types_in}
use Rattle.core_term.specs.Inert.{is_inert, is_inert_fun}
use Rattle.core_term.specs.Parts.{par_left, par_right, cat_first, cat_second, sum_left, sum_right, star_item, star_items, left_part, right_part, first_part, second_part}
use Rattle.core_term.specs.Run.{sum_run, star_run, wait_run}
use Rattle.core_term.specs.Meaning.{values, call_at, run_all, run_at}
use Rattle.core_term.specs.Typing.{Context, types_of, IsTypedBody, past_params, with_name}
use Rattle.core_term.proofs.Sides.{holds-head}
use Rattle.core_term.proofs.Placing.{like_agrees, let_agrees, pair_agrees, row_agrees}
use Rattle.core_term.proofs.Parameters.{Prefixes, PastValues, params_derive, values_have, past_params_have}
use Rattle.core_term.proofs.InertFunctions.{inert_bodies}
use Rattle.core_term.proofs.InertRuns.{EmptyOn, run_at_nothing}
use Rattle.core_term.proofs.GrowingRuns.{Streams, streams_put, streams_put_two, par_parts, cat_parts, par_parts_whole, cat_parts_whole}
use Rattle.core_term.proofs.Monotone.{pasts_put, run_at_derives, runs_at_derive}
use Rattle.core_term.proofs.TypedTerms.{PastTypes, Typed, TypedAll, var_typed, eps_typed, unit_typed, nil_typed, past_typed, par_typed, cat_typed, cons_typed, inl_typed, inr_typed, let_typed, let_par_typed, let_cat_typed, case_sum_typed, case_star_typed, wait_typed, call_typed, none_typed, more_typed, StandBefore}
use Rattle.core_term.proofs.TypedRuns.{Any, typed_bodies, at_index}
use Rattle.core_term.proofs.WholeRuns.{cat_calls_first, run_at_whole}
use Rattle.delta_state.specs.StateTree.{Known, StateTree, cat_state, sum_state, star_state, wait_state, free_in_state}
use Rattle.delta_state.specs.StateMeaning.{past_in, types_held}
use Rattle.delta_state.specs.Apart.{BindsApart, BindApart}
use Rattle.delta_state.specs.StateTyping.{facts_held}
use Rattle.delta_state.specs.Rest.{taken, known_of, rest_all, call_rest_at, rest_at}
use Rattle.state_steps.proofs.FactsWithin.{within_on_let}
use Rattle.state_steps.proofs.NoNewNames.{free_in_rest}
use Rattle.state_steps.proofs.HeldForms.{taken_holds}
use Rattle.state_steps.proofs.Steps.{by_test, left_emp, right_emp, sequence_calls_second}
use Rattle.state_steps.proofs.PartSteps.{cat_order, par_der}
use Rattle.state_steps.proofs.CalledBodies.{past_known}
use Rattle.state_steps.proofs.PassedArguments.{split_before, passed_agree}
use Rattle.state_bounds.specs.Bounds.{Bound, greater, ◌⊑◌}
use Rattle.state_bounds.specs.TermBounds.{case_room, wait_room, bound_of, bounds_of, body_bound}
use Rattle.state_bounds.specs.StateBounds.{state_bound, argument_bounds}
use Rattle.state_bounds.proofs.BoundOrder.{at_most_next, both_at_most, greater_at_most, at_most_left, at_most_right, nothing_at_most}
use Rattle.state_bounds.proofs.MoreFacts.{gains_left, gains_right, gains_tail}
use Rattle.state_bounds.proofs.TermsWithMoreFacts.{term_at_most}
use Rattle.state_bounds.proofs.StarItems.{star_none, star_came, star_turn, star_calls}
use Rattle.state_bounds.proofs.LeftNames.{Leaves, leaves_type, nothing_left, gains_held, leaves_put, pair_bound, cut_bound, sum_rest_bound, star_rest_bound}
use Rattle.state_bounds.proofs.LeftParameters.{body_leaves}

module _ (funs : List CoreBody) (all_typed : All (IsTypedBody funs) funs) (all_apart : All (λ b. BindsApart b.body) funs) (numbers : ℕ → Bound)
    (enough : (f : ℕ) → body_bound (fun_at funs) (is_inert_fun funs) numbers (fun_at funs f) ⊑ numbers f) where
  -- the functions by their numbers, and which of them are inert
  abbrev F : ℕ → CoreBody
  F = fun_at funs

  abbrev I : ℕ → Bool
  I = is_inert_fun funs

  -- what a term can hold at most
  abbrev most : CoreTerm → NameTypes → Facts → Bound
  most e T O = bound_of F I numbers e T O

  -- what a call at this depth leaves holds no more than its function's number
  abbrev CallsHold : ℕ → Type 0
  CallsHold k =
      (f : ℕ) (vs : List HistValue) (ps : List StreamPrefix) → PastValues (past_types (F f)) vs → Prefixes (leaf_types (F f).params) ps
      → Agrees (types_in (F f).params) (stands_before (F f).params) (value_at eps_emp (leaf_names (F f).params) ps)
      → (call_at F k f vs ps).calls ≤ k → (c : Context)
      → Leaves (free_names (F f).body) (types_in (F f).params) (stands_before (F f).params) (value_at eps_emp (leaf_names (F f).params) ps) c
      → state_bound funs numbers (call_rest_at F k f vs ps) c ⊑ numbers f

  module _ (k : ℕ) (calls_hold : CallsHold k) where
    -- what is left of a term
    abbrev rest : CoreTerm → NameTypes → StreamType → Environment → List Known → StateTree
    rest e T r d past = rest_at F k e T r d past

    -- what is left of a sequence: its second part's own rest, or the first's, with nothing come on the second
    sequence_bound : {T : NameTypes} {O : Facts} {H : PastTypes} (a b : CoreTerm) {s : StreamType} (t : StreamType) → Typed F I Any T O H a s → StandBefore O (free_names a) (free_names b)
        → (d : Environment) (past : List Known) → Streams T d → Agrees T O d → HasTypes H (past_in past) → (run_at F k a T s d (past_in past)).calls ≤ k → (c : Context) → Leaves (free_names b) T O d c
        → state_bound funs numbers (rest a T s d past) c ⊑ most a T O → (is_maximal (run_at F k a T s d (past_in past)).out ≡ true → state_bound funs numbers (rest b T t d past) c ⊑ most b T O)
        → state_bound funs numbers (if is_maximal (run_at F k a T s d (past_in past)).out then rest b T t d past else cat_state (rest a T s d past) (record { term = b; past = past; depth = k })) c ⊑ greater (most a T O) (most b T O)
    sequence_bound {T = T} {O = O} a b {s = s} t i o d past st agrees f le c h first second =
        by_test (λ w. state_bound funs numbers (if w then rest b T t d past else cat_state (rest a T s d past) (record { term = b; past = past; depth = k })) c ⊑ greater (most a T O) (most b T O))
        (is_maximal (run_at F k a T s d (past_in past)).out) (λ m. at_most_right _ (most a T O) (most b T O) (second m))
        (λ n. greater_at_most _ _ _ _ first (term_at_most F I numbers b T (types_of c) O c.order (nothing_left (free_names b) T O d c (empties n) h)))
      where
        empties : is_maximal (run_at F k a T s d (past_in past)).out ≡ false → EmptyOn (free_names b) T d
        empties n =
            ⊎_elim (λ w. absurd (true≢false (sym (run_at_whole F I Any (typed_bodies funs all_typed) k i d (past_in past) st f w le) ∙ n))) (λ e. e)
            (split_before T O d (free_names a) (free_names b) agrees o)

    mutual
      -- what is left of a term holds no more than the term can,
      rest_bound : {T : NameTypes} {O : Facts} {H : PastTypes} {e : CoreTerm} {r : StreamType} → Typed F I Any T O H e r → BindsApart e → (d : Environment) (past : List Known) → Streams T d → Agrees T O d → HasTypes H (past_in past)
          → (run_at F k e T r d (past_in past)).calls ≤ k → (c : Context) → Leaves (free_names e) T O d c → state_bound funs numbers (rest e T r d past) c ⊑ most e T O
      rest_bound (var_typed e) w d past s agrees f le c h = omega arith
      rest_bound eps_typed w d past s agrees f le c h = omega arith
      rest_bound unit_typed w d past s agrees f le c h = omega arith
      rest_bound nil_typed w d past s agrees f le c h = omega arith
      rest_bound (past_typed i) w d past s agrees f le c h = omega arith
      rest_bound (par_typed {T = T} {O = O} {a = a} {b = b} i j) w d past s agrees f le c h =
          both_at_most _ _ _ _ (rest_bound i w.0 d past s agrees f (omega (arith, le)) c (gains_left (free_names a) (free_names b) _ c.types O c.order h)) (rest_bound j w.1 d past s agrees f (omega (arith, le)) c (gains_right (free_names a) (free_names b) _ c.types O c.order h))
      rest_bound (cat_typed {T = T} {O = O} {a = a} {b = b} {s = u} {t = v} i j o) w d past s agrees f le c h =
          let first = run_at F k a T u d (past_in past) in
          let second = run_at F k b T v d (past_in past) in
          let m = cat_calls_first first second k le in
          sequence_bound a b v i o d past s agrees f m c (gains_right (free_names a) (free_names b) _ c.types O c.order h) (rest_bound i w.0 d past s agrees f m c (gains_left (free_names a) (free_names b) _ c.types O c.order h))
          (λ e. let n = sequence_calls_second first second 0 k e (omega (arith, le)) in rest_bound j w.1 d past s agrees f (omega (arith, n)) c (gains_right (free_names a) (free_names b) _ c.types O c.order h))
      rest_bound (cons_typed {T = T} {O = O} {a = a} {b = b} {s = u} i j o) w d past s agrees f le c h =
          let first = run_at F k a T u d (past_in past) in
          let second = run_at F k b T (star u) d (past_in past) in
          let m = cat_calls_first first second k le in
          sequence_bound a b (star u) i o d past s agrees f m c (gains_right (free_names a) (free_names b) _ c.types O c.order h) (rest_bound i w.0 d past s agrees f m c (gains_left (free_names a) (free_names b) _ c.types O c.order h))
          (λ e. let n = sequence_calls_second first second 0 k e (omega (arith, le)) in rest_bound j w.1 d past s agrees f (omega (arith, n)) c (gains_right (free_names a) (free_names b) _ c.types O c.order h))
      rest_bound (inl_typed i) w d past s agrees f le c h = rest_bound i w d past s agrees f le c h
      rest_bound (inr_typed i) w d past s agrees f le c h = rest_bound i w d past s agrees f le c h
      rest_bound (let_typed {T = T} {O = O} {x = x} {s = u} {r = r} {a = a} {b = b} i j) w d past s agrees f le c h =
          let p = (run_at F k a T u d (past_in past)).out in
          let inert = is_inert F I a u in
          let free = free_in_state (rest a T u d past) in
          let m : (run_at F k a T u d (past_in past)).calls ≤ k = omega (arith, le) in
          let n : (run_at F k b (put x u T) r (put x p d) (past_in past)).calls ≤ k = omega (arith, le) in
          both_at_most _ _ _ _ (rest_bound i w.0 d past s agrees f m c (gains_left (free_names a) (without x (free_names b)) _ c.types O c.order h))
          (rest_bound j w.1 (put x p d) past (streams_put x u p T d (run_at_derives F I Any (typed_bodies funs all_typed) k i d (past_in past) s f) s)
          (let_agrees T O d x (free_names a) inert u p agrees (λ v. run_at_whole F I Any (typed_bodies funs all_typed) k i d (past_in past) s f (record { at = v }) m)
          (λ q v. run_at_nothing F I Any (typed_bodies funs all_typed) (inert_bodies funs) k i q d (past_in past) f (record { at = v })))
          f n (with_name x (der p u) (place_let x free true c.order) c)
          (leaves_put x u (der p u) p (free_names b) T O (place_let x (free_names a) inert O) (place_let x free true c.order) d c refl (gains_right (free_names a) (without x (free_names b)) _ c.types O c.order h)
          (within_on_let x (free_names a) free (free_names b) inert true O c.order h.order (free_in_rest F k (call_rest_at F k) a T u d past) (λ q. refl))))
      rest_bound (let_par_typed {T = T} {O = O} {x = x} {y = y} {z = z} {r = r} {a = a} v e i) w d past s agrees f le c h =
          let hz : Derives (par (par_left (T z)) (par_right (T z))) (d z) = subst (λ t. Derives t (d z)) e (s.at z) in
          let q = par_parts hz in
          pair_bound funs numbers x y z (par_left (T z)) (der (left_part (d z)) (par_left (T z))) (par_right (T z)) (der (right_part (d z)) (par_right (T z))) (left_part (d z)) (right_part (d z)) (free_names a) T O d c (rest a (put y (par_right (T z)) (put x (par_left (T z)) T)) r (put y (right_part (d z)) (put x (left_part (d z)) d)) past) (most a (put y (par_right (T z)) (put x (par_left (T z)) T)) (place_like y z (place_like x z O)))
          (leaves_type _ T O d c h z (holds-head z _) ∙ ap Some (ap (der (d z)) e ∙ par_der hz)) refl refl h
          (λ c' h'. rest_bound i w.1 _ past (streams_put_two x y (par_left (T z)) (par_right (T z)) _ _ T d q.0 q.1 s)
          (pair_agrees T O d x y z (par_left (T z)) (par_right (T z)) (left_part (d z)) (right_part (d z)) agrees w.0 (λ m. par_parts_whole hz m) (λ n. (ap left_part (n ∙ ap emp e), ap right_part (n ∙ ap emp e)))) f le c' h')
      rest_bound (let_cat_typed {T = T} {O = O} {x = x} {y = y} {z = z} {r = r} {a = a} v v' e i) w d past s agrees f le c h =
          let hz : Derives (cat (cat_first (T z)) (cat_second (T z))) (d z) = subst (λ t. Derives t (d z)) e (s.at z) in
          let q = cat_parts hz in
          cut_bound funs numbers x y z (T z) (free_names a) T O d c (rest a (put y (cat_second (T z)) (put x (cat_first (T z)) T)) r (put y (second_part (cat_second (T z)) (d z)) (put x (first_part (d z)) d)) past) (most a (put y (cat_second (T z)) (put x (cat_first (T z)) T)) (put_before x y (place_like y z (place_like x z O)))) w.0.from_subject w.0.from_second e refl hz h
          (λ c' h'. rest_bound i w.1 _ past (streams_put_two x y (cat_first (T z)) (cat_second (T z)) _ _ T d q.0 q.1 s)
          (row_agrees T O d x y z (cat_first (T z)) (cat_second (T z)) (first_part (d z)) (second_part (cat_second (T z)) (d z)) agrees w.0.from_subject w.0.from_second (λ m. cat_parts_whole hz m)
          (λ n. (ap first_part (n ∙ ap emp e), ap (second_part (cat_second (T z))) (n ∙ ap emp e))) (cat_order hz)) f le c' h')
      rest_bound (case_sum_typed {T = T} {O = O} {x = x} {y = y} {z = z} {r = r} {a = a} {b = b} e i j) w d past s agrees f le c h =
          let fs = free_names (case_sum_term z r x a y b) in
          let held = taken (once (free_names (case_sum_term z r x a y b))) T d in
          let runs : StreamPrefix → ℕ = λ o. (sum_run r o (λ p. run_at F k a (put x (sum_left (T z)) T) r (put x p d) (past_in past)) (λ p. run_at F k b (put y (sum_right (T z)) T) r (put y p d) (past_in past))).calls in
          let left = most a (put x (sum_left (T z)) T) (place_like x z O) in
          let right = most b (put y (sum_right (T z)) T) (place_like y z O) in
          sum_rest_bound funs numbers z x y (T z) (free_names a) (free_names b) T O d c (sum_state z r held x (record { term = a; past = past; depth = k }) y (record { term = b; past = past; depth = k })) (λ p. rest a (put x (sum_left (T z)) T) r (put x p d) past) (λ p. rest b (put y (sum_right (T z)) T) r (put y p d) past) (greater (case_room T O z fs) (greater left right)) (subst (λ t. Derives t (d z)) e (s.at z)) h
          (λ p n q c' h'. at_most_right _ (case_room T O z fs) (greater left right) (at_most_left _ left right (rest_bound i w.0 (put x p d) past (streams_put x (sum_left (T z)) p T d q s)
          (like_agrees T O d x z (sum_left (T z)) p agrees (λ m. sym (ap is_maximal n) ∙ m) (λ m. absurd (left_emp p (sym n ∙ (m ∙ ap emp e))))) f (subst (λ o. runs o ≤ k) n le) c' h')))
          (λ p n q c' h'. at_most_right _ (case_room T O z fs) (greater left right) (at_most_right _ left right (rest_bound j w.1 (put y p d) past (streams_put y (sum_right (T z)) p T d q s)
          (like_agrees T O d y z (sum_right (T z)) p agrees (λ m. sym (ap is_maximal n) ∙ m) (λ m. absurd (right_emp p (sym n ∙ (m ∙ ap emp e))))) f (subst (λ o. runs o ≤ k) n le) c' h')))
          (λ n. term_at_most F I numbers (case_sum_term z r x a y b) T (types_held held) O (facts_held held c.order) (gains_held fs T O c.order d held (taken_holds fs T d) agrees h.order))
      rest_bound (case_star_typed {T = T} {O = O} {y = y} {ys = ys} {z = z} {r = r} {a = a} {b = b} v v' e i j) w d past s agrees f le c h =
          let fs = free_names (case_star_term z r a y ys b) in
          let held = taken (once (free_names (case_star_term z r a y ys b))) T d in
          let runs : StreamPrefix → ℕ = λ o. (star_run r o (run_at F k a T r d (past_in past)) (λ p q. run_at F k b (put ys (star_items (T z)) (put y (star_item (T z)) T)) r (put ys q (put y p d)) (past_in past))).calls in
          let items : star_items (T z) ≡ star (star_item (T z)) = ap star_items e in
          let left = most a T O in
          let right = most b (put ys (star_items (T z)) (put y (star_item (T z)) T)) (put_before y ys (place_like ys z (place_like y z O))) in
          star_rest_bound funs numbers z y ys (T z) (free_names a) (free_names b) T O d c (star_state z r held (record { term = a; past = past; depth = k }) y ys (record { term = b; past = past; depth = k })) (rest a T r d past) (λ p q. rest b (put ys (star_items (T z)) (put y (star_item (T z)) T)) r (put ys q (put y p d)) past) (greater (case_room T O z fs) (greater left right)) w.0.from_subject w.0.from_second refl e (items ∙ sym e) refl (subst (λ t. Derives t (d z)) e (s.at z)) h
          (λ n. at_most_right _ (case_room T O z fs) (greater left right) (at_most_left _ left right (rest_bound i w.1 d past s agrees f (subst (λ o. runs o ≤ k) n le) c (gains_left (free_names a) _ _ c.types O c.order (gains_tail z _ _ c.types O c.order h)))))
          (λ p q n c' h'. at_most_right _ (case_room T O z fs) (greater left right) (at_most_right _ left right
          (let g = star_came (star_item (T z)) (d z) p q (subst (λ t. Derives t (d z)) e (s.at z)) n in
          rest_bound j w.2 (put ys q (put y p d)) past (streams_put_two y ys (star_item (T z)) (star_items (T z)) p q T d g.0 (subst (λ t. Derives t q) (sym items) g.1) s)
          (row_agrees T O d y ys z (star_item (T z)) (star_items (T z)) p q agrees w.0.from_subject w.0.from_second (λ m. g.2 m) (λ m. absurd (star_none p q (d z) n (m ∙ ap emp e))) (star_turn (star_item (T z)) (star_items (T z)) (d z) p q (subst (λ t. Derives t (d z)) e (s.at z)) items n))
          f (star_calls r k (d z) p q n (run_at F k a T r d (past_in past)) (λ p q. run_at F k b (put ys (star_items (T z)) (put y (star_item (T z)) T)) r (put ys q (put y p d)) (past_in past)) le) c' h')))
          (λ n. term_at_most F I numbers (case_star_term z r a y ys b) T (types_held held) O (facts_held held c.order) (gains_held fs T O c.order d held (taken_holds fs T d) agrees h.order))
      rest_bound (wait_typed {T = T} {O = O} {H = H} {x = x} {r = r} {a = a} n i) w d past s agrees f le c h =
          let held = taken (once (free_names (wait_term x r a))) T d in
          let known : List Known = record { name = x; type = T x; value = value_of (d x) } ∷ past in
          by_test (λ b. state_bound funs numbers (if b then rest a T r d known else wait_state x r held (record { term = a; past = past; depth = k })) c ⊑ most (wait_term x r a) T O) (is_maximal (d x))
          (λ m. at_most_right _ (wait_room T O x (free_names (wait_term x r a))) (most a T O) (rest_bound i w d known s agrees (pasts_put x (past_type (T x)) (value_of (d x)) H (past_in past) (value_has_past (T x) (d x) (is_prefix (s.at x)) m) f)
          (subst (λ b. (wait_run r b (run_at F k a T r d (put x (value_of (d x)) (past_in past)))).calls ≤ k) m le) c (gains_tail x (free_names a) _ c.types O c.order h)))
          (λ m. term_at_most F I numbers (wait_term x r a) T (types_held held) O (facts_held held c.order) (gains_held (free_names (wait_term x r a)) T O c.order d held (taken_holds (free_names (wait_term x r a)) T d) agrees h.order))
      rest_bound (call_typed {T = T} {O = O} {H = H} {f = g} {ms = ms} {es = es} e i as' o) w d past s agrees f le c h =
          let params = (F g).params in
          let runs = run_all F (call_at F k) es (leaf_types (F g).params) T d (past_in past) in
          let m : runs.calls ≤ k = omega (arith, le) in
          let n : (call_at F k g (values ms (past_in past)) runs.outs).calls ≤ k = omega (arith, le) in
          both_at_most _ _ _ _ (rests_bound as' (leaf_names (F g).params) w d past s agrees f m c h)
          (calls_hold g (values ms (past_in past)) runs.outs (values_have H ms (past_types (F g)) (past_in past) f i) (runs_at_derive F I Any (typed_bodies funs all_typed) k as' d (past_in past) s f)
          (passed_agree funs all_typed k (call_typed {ms = ms} e i as' o) d (past_in past) s agrees f m) n _ (body_leaves funs all_typed k g as' o d past c h))

      -- and what is left of arguments no more than the arguments can
      rests_bound : {T : NameTypes} {O : Facts} {H : PastTypes} {es : CoreTerms} {ts : List StreamType} → TypedAll F I Any T O H es ts → (us : List ℕ) → BindApart es → (d : Environment) (past : List Known) → Streams T d → Agrees T O d
          → HasTypes H (past_in past) → (run_all F (call_at F k) es ts T d (past_in past)).calls ≤ k → (c : Context) → Leaves (free_in_terms es) T O d c
          → argument_bounds funs numbers (rest_all F k (call_rest_at F k) es us ts T d past) c ⊑ bounds_of F I numbers es T O
      rests_bound none_typed us w d past s agrees f le c h = omega arith
      rests_bound (more_typed i j) [] w d past s agrees f le c h = nothing_at_most _
      rests_bound (more_typed {T = T} {O = O} {e = e} {es = es} i j) (u ∷ us) w d past s agrees f le c h =
          both_at_most _ _ _ _ (rest_bound i w.0 d past s agrees f (omega (arith, le)) c (gains_left (free_names e) (free_in_terms es) _ c.types O c.order h)) (rests_bound j us w.1 d past s agrees f (omega (arith, le)) c (gains_right (free_names e) (free_in_terms es) _ c.types O c.order h))

  -- at each depth calls leave no more than that: the body leaves no more than it can hold, which the number isn't below
  calls_hold_at : (k : ℕ) → CallsHold k
  unfolding call_at call_rest_at
  calls_hold_at zero f vs ps hv hp agrees le c h = nothing_at_most (numbers f)
  calls_hold_at (suc k) f vs ps hv hp agrees le c h =
      let b = F f in
      let T = types_in b.params in
      let d = value_at eps_emp (leaf_names b.params) ps in
      let past = known_of b.past vs in
      let same : past_in past ≡ value_at unit_value (past_names b) vs = λ i x. past_known b.past vs x i in
      let le' : (run_at F k b.body T b.result d (past_in past)).calls ≤ k = subst (λ p. (run_at F k b.body T b.result d p).calls ≤ k) (sym same) (omega (arith, le)) in
      at_most_next _ _ _
      (rest_bound k (calls_hold_at k) ((typed_bodies funs all_typed).body f) (at_index (λ b. BindsApart b.body) no_body funs all_apart tt f) d past (record { at = params_derive b.params hp }) agrees
      (subst (HasTypes (past_params b.past)) (sym same) (past_params_have b hv)) le' c h) (enough f)

  -- so what is left of a term holds no more than the term can, over any context that has what is left of its names
  pub rest_at_most : (k : ℕ) {T : NameTypes} {O : Facts} {H : PastTypes} {e : CoreTerm} {r : StreamType} → Typed F I Any T O H e r → BindsApart e → (d : Environment) (past : List Known) → Streams T d → Agrees T O d
      → HasTypes H (past_in past) → (run_at F k e T r d (past_in past)).calls ≤ k → (c : Context) → Leaves (free_names e) T O d c → state_bound funs numbers (rest_at F k e T r d past) c ⊑ bound_of F I numbers e T O
  rest_at_most k i w d past s agrees f le c h = rest_bound k (calls_hold_at k) i w d past s agrees f le c h
