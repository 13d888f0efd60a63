-- A term has its type exactly where none of its nodes breaks a rule.
use Rattle.std.proofs.Common.{◌≡◌, ◌∙◌, ◌↔◌, ℕ, zero, suc, ◌==◌, Bool, true, false, true≢false, ◌&&◌, not, if◌then◌else◌, List, [], ◌∷◌, ◌++◌, length, Option, Some, None, arith, ap, refl, sym, subst}
use Rattle.std.specs.Bool.{⊤}
use Rattle.std.proofs.lemmas.Bool.{eqb-true, eq-eqb}
use Rattle.std.proofs.lemmas.List.{length-map}
use Rattle.std.specs.Prelude.{option_map}
use Rattle.std.specs.List.{list_any, All}
use Rattle.stream_type.specs.StreamType.{StreamType, eps, one, cat, par, sum, star, null_of}
use Rattle.bunch.specs.BunchTree.{leaf_names, stands_before}
use Rattle.bunch.proofs.Bunches.{first_is_there, second_is_there}
use Rattle.bunch.proofs.Tests.{and_first, and_second}
use Rattle.hist_value.specs.HistType.{HistType, past}
use Rattle.hist_value.specs.HistExpr.{HistExpr}
use Rattle.hist_value.specs.Typing.{Gives}
use Rattle.core_term.specs.CoreTerm.{CoreTerm, CoreTerms, CoreBody, CoreProgram, var_term, eps_term, unit_term, nil_term, past_term, par_term, cat_term, cons_term, inl_term, inr_term, let_term, let_par_term, let_cat_term, case_sum_term, case_star_term, wait_term, call_term, no_terms, term_before, term_count, leaf_types, past_types, fun_at, is_there}
use Rattle.core_term.specs.FreeNames.{free_names}
use Rattle.core_term.specs.Agreement.{types_in}
use Rattle.core_term.specs.Inert.{is_inert, has_arity, is_inert_fun}
use Rattle.core_term.specs.Parts.{par_left, par_right, cat_first, cat_second, sum_left, sum_right, star_item, star_items, is_par, is_cat, is_sum, is_star, is_same_type}
use Rattle.core_term.specs.Typing.{Context, type_at, AllBefore, with_name_like, with_fact, with_parts, waited, with_let, passed, PassesInOrder, HasType, HaveTypes, HavePasts, context_of, IsTypedBody, IsTypedCore}
use Rattle.core_term.specs.TypeFaults.{NodeAt, wait_null, history_fault, out_of_order, jumpy, other_arity, first_found, found_where, first_pair, first_passed, first_jumpy, of_stream, of_form, of_term, of_type, of_order, of_pasts, of_passing, of_call, broken, lower, nodes_of, nodes_among, first_broken_of, nodes_of_body, nodes_in_bodies, program_nodes, first_broken, refusal_in, expr_refusal}
use Rattle.hist_value.specs.Judge.{Judged, good, bad, judge}
use Rattle.hist_value.proofs.Judgments.{judge_is_gives, gives_what_is_wanted}
use Rattle.core_term.specs.Laws.{TypedIsUnbroken}
use Rattle.core_term.proofs.Causes.{is_same_type-true, is_par-form, is_cat-form, is_sum-form, is_star-form, found_where-none, found_where-kept, first_some-none, first_some-both, option_map-none, if-first, first_found-none, first_found-all, list_any-there, list_any-found, first_pair-none, first_pair-all, lower-none, lower-both, of_stream-none, of_type-none, of_type-same, of_order-none, of_order-all}

-- a refusal of historical expressions is exact: there is none just where the rules give the wanted type
abbrev IsExactRefusal : {Fault : Type 0} → ((ℕ → Option HistType) → HistExpr → HistType → Option Fault) → Type 0
IsExactRefusal refusal = (env : ℕ → Option HistType) (m : HistExpr) (t : HistType) → (refusal env m t ≡ None) ↔ Gives env m (Some t) t

module _ (funs : List CoreBody) (counts : ℕ → Bool) {Fault : Type 0} (refusal : (ℕ → Option HistType) → HistExpr → HistType → Option Fault) where
  -- none of the nodes breaks a rule
  abbrev pub Unbroken : List NodeAt → Type 0
  Unbroken [] = ⊤
  Unbroken (j ∷ js) = (broken funs counts refusal j.context j.term j.wanted ≡ None) × Unbroken js

  pub unbroken-append : (xs ys : List NodeAt) → Unbroken (xs ++ ys) → Unbroken xs × Unbroken ys
  unbroken-append [] ys h = (tt, h)
  unbroken-append (x ∷ xs) ys h = let r = unbroken-append xs ys h.1 in ((h.0, r.0), r.1)

  pub unbroken-joined : (xs ys : List NodeAt) → Unbroken xs → Unbroken ys → Unbroken (xs ++ ys)
  unbroken-joined [] ys h k = k
  unbroken-joined (x ∷ xs) ys h k = (h.0, unbroken-joined xs ys h.1 k)

  module _ (exact : IsExactRefusal refusal) where
    -- historical arguments
    pasts_typed : (env : ℕ → Option HistType) (ms : List HistExpr) (ts : List StreamType) → length ms ≡ length ts → of_pasts funs counts refusal env ms ts ≡ None → HavePasts env ms ts
    pasts_typed env [] [] n h = tt
    pasts_typed env [] (t ∷ ts) n h = absurd (omega (arith, n))
    pasts_typed env (m ∷ ms) [] n h = absurd (omega (arith, n))
    pasts_typed env (m ∷ ms) (t ∷ ts) n h =
        let s = first_some-none (option_map history_fault (refusal env m (past t))) (of_pasts funs counts refusal env ms ts) h in
        ((exact env m (past t)).0 (option_map-none history_fault (refusal env m (past t)) s.0), pasts_typed env ms ts (omega (arith, n)) s.1)

    pasts_unbroken : (env : ℕ → Option HistType) (ms : List HistExpr) (ts : List StreamType) → HavePasts env ms ts → (length ms ≡ length ts) × (of_pasts funs counts refusal env ms ts ≡ None)
    pasts_unbroken env [] [] h = (refl, refl)
    pasts_unbroken env [] (t ∷ ts) h = absurd h
    pasts_unbroken env (m ∷ ms) [] h = absurd h
    pasts_unbroken env (m ∷ ms) (t ∷ ts) h =
        let r = pasts_unbroken env ms ts h.1 in
        (ap suc r.0, first_some-both (option_map history_fault (refusal env m (past t))) (of_pasts funs counts refusal env ms ts) (ap (option_map history_fault) ((exact env m (past t)).1 h.0)) r.1)

    -- the arguments of parameters, one before the other
    in_order_at : (c : Context) (b : CoreBody) (es : CoreTerms) → first_passed funs counts c b es ≡ None → (u v : ℕ) → stands_before b.params u v ≡ true → AllBefore c (free_names (passed b es u)) (free_names (passed b es v))
    in_order_at c b es h u v o =
        let at : ℕ → ℕ → Option (ℕ × ℕ) = λ u v. if stands_before b.params u v then first_pair c (free_names (passed b es u)) (free_names (passed b es v)) else None in
        let found : at u v ≡ None = first_found-none (at u) (leaf_names b.params) (first_found-none (λ u. first_found (at u) (leaf_names b.params)) (leaf_names b.params) h u (first_is_there b.params u v o)) v (second_is_there b.params u v o) in
        first_pair-none c (free_names (passed b es u)) (free_names (passed b es v)) (sym (ap (λ t. if t then first_pair c (free_names (passed b es u)) (free_names (passed b es v)) else None) o) ∙ found)

    still_at : (b : CoreBody) (es : CoreTerms) → first_jumpy funs counts b es ≡ None → (u v : ℕ) → stands_before b.params u v ≡ true → is_inert (fun_at funs) counts (passed b es v) (types_in b.params v) ≡ true
    still_at b es h u v o =
        let late : list_any (λ u. stands_before b.params u v) (leaf_names b.params) ≡ true = list_any-there (λ u. stands_before b.params u v) (leaf_names b.params) u (first_is_there b.params u v o) o in
        let inert = is_inert (fun_at funs) counts (passed b es v) (types_in b.params v) in
        let at = first_found-none (λ v. found_where (list_any (λ u. stands_before b.params u v) (leaf_names b.params) && not (is_inert (fun_at funs) counts (passed b es v) (types_in b.params v))) v) (leaf_names b.params) h v (second_is_there b.params u v o) in
        found_where-kept inert v (sym (ap (λ t. found_where (t && not inert) v) late) ∙ at)

    passed_unbroken : (c : Context) (b : CoreBody) (es : CoreTerms) → ((u v : ℕ) → stands_before b.params u v ≡ true → PassesInOrder funs counts c b es u v) → first_passed funs counts c b es ≡ None
    passed_unbroken c b es h =
        first_found-all (λ u. first_found (λ v. if stands_before b.params u v then first_pair c (free_names (passed b es u)) (free_names (passed b es v)) else None) (leaf_names b.params)) (leaf_names b.params)
        (λ u mu. first_found-all (λ v. if stands_before b.params u v then first_pair c (free_names (passed b es u)) (free_names (passed b es v)) else None) (leaf_names b.params)
        (λ v mv. go u v (stands_before b.params u v) refl))
      where
        go : (u v : ℕ) (t : Bool) → stands_before b.params u v ≡ t → (if t then first_pair c (free_names (passed b es u)) (free_names (passed b es v)) else None) ≡ None
        go u v true o = first_pair-all c (free_names (passed b es u)) (free_names (passed b es v)) (PassesInOrder.in_order (h u v o))
        go u v false o = refl

    jumpy_unbroken : (c : Context) (b : CoreBody) (es : CoreTerms) → ((u v : ℕ) → stands_before b.params u v ≡ true → PassesInOrder funs counts c b es u v) → first_jumpy funs counts b es ≡ None
    jumpy_unbroken c b es h =
        first_found-all (λ v. found_where (list_any (λ u. stands_before b.params u v) (leaf_names b.params) && not (is_inert (fun_at funs) counts (passed b es v) (types_in b.params v))) v) (leaf_names b.params)
        (λ v mv. go v (list_any (λ u. stands_before b.params u v) (leaf_names b.params)) refl)
      where
        go : (v : ℕ) (t : Bool) → list_any (λ u. stands_before b.params u v) (leaf_names b.params) ≡ t → found_where (t && not (is_inert (fun_at funs) counts (passed b es v) (types_in b.params v))) v ≡ None
        go v true o = let u = list_any-found (λ u. stands_before b.params u v) (leaf_names b.params) o in ap (λ i. found_where (not i) v) (PassesInOrder.is_still (h u.0 v u.2))
        go v false o = refl

    -- what a call that breaks no rule has
    call_typed : (c : Context) (f : ℕ) (ms : List HistExpr) (es : CoreTerms) (r : StreamType) → broken funs counts refusal c (call_term f ms es) r ≡ None
        → (term_count es ≡ length (leaf_types (fun_at funs f).params) → HaveTypes funs counts c es (leaf_types (fun_at funs f).params)) → HasType funs counts c (call_term f ms es) r
    call_typed c f ms es r h types =
        let b = fun_at funs f in
        let there = if-first (is_there funs f) (of_call funs counts refusal c f ms es r) (other_arity f) h in
        let parts = lower-none (of_type b.result r) (if has_arity b ms es then of_passing funs counts refusal c b ms es else Some (other_arity f)) there.1 in
        let arity = if-first (has_arity b ms es) (of_passing funs counts refusal c b ms es) (other_arity f) parts.1 in
        let rules = lower-none (option_map (λ p. out_of_order p.0 p.1) (first_passed funs counts c b es)) _ arity.1 in
        let others = lower-none (option_map jumpy (first_jumpy funs counts b es)) (of_pasts funs counts refusal c.past ms (past_types b)) rules.1 in
        let order = option_map-none (λ p. out_of_order p.0 p.1) (first_passed funs counts c b es) rules.0 in
        let still = option_map-none jumpy (first_jumpy funs counts b es) others.0 in
        let pasts : length ms ≡ length (past_types b) = eqb-true (length ms) (length b.past) (and_first (length ms == length b.past) (term_count es == length (leaf_types b.params)) arity.0) ∙ sym (length-map b.past (λ e. e.1)) in
        let terms = eqb-true (term_count es) (length (leaf_types b.params)) (and_second (length ms == length b.past) (term_count es == length (leaf_types b.params)) arity.0) in
        (there.0, of_type-none b.result r parts.0, pasts_typed c.past ms (past_types b) pasts others.1, types terms, λ u v o. record { in_order = in_order_at c b es order u v o; is_still = still_at b es still u v o })

    -- a form with a type of its form
    par_typed : (c : Context) (a b : CoreTerm) (r : StreamType) → is_par r ≡ true → HasType funs counts c a (par_left r) → HasType funs counts c b (par_right r) → HasType funs counts c (par_term a b) r
    par_typed c a b (par s t) h x y = (x, y)
    par_typed c a b _ h x y = absurd (true≢false (sym h))

    cat_typed : (c : Context) (a b : CoreTerm) (r : StreamType) → is_cat r ≡ true → HasType funs counts c a (cat_first r) → HasType funs counts c b (cat_second r) → AllBefore c (free_names a) (free_names b) → HasType funs counts c (cat_term a b) r
    cat_typed c a b (cat s t) h x y o = (x, y, o)
    cat_typed c a b _ h x y o = absurd (true≢false (sym h))

    cons_typed : (c : Context) (a b : CoreTerm) (r : StreamType) → is_star r ≡ true → HasType funs counts c a (star_item r) → HasType funs counts c b (star_items r) → AllBefore c (free_names a) (free_names b) → HasType funs counts c (cons_term a b) r
    cons_typed c a b (star s) h x y o = (x, y, o)
    cons_typed c a b _ h x y o = absurd (true≢false (sym h))

    inl_typed : (c : Context) (a : CoreTerm) (r : StreamType) → is_sum r ≡ true → HasType funs counts c a (sum_left r) → HasType funs counts c (inl_term a) r
    inl_typed c a (sum s t) h x = x
    inl_typed c a _ h x = absurd (true≢false (sym h))

    inr_typed : (c : Context) (a : CoreTerm) (r : StreamType) → is_sum r ≡ true → HasType funs counts c a (sum_right r) → HasType funs counts c (inr_term a) r
    inr_typed c a (sum s t) h x = x
    inr_typed c a _ h x = absurd (true≢false (sym h))

    mutual
      -- where no node breaks a rule, the term has its type
      pub typed : (c : Context) (e : CoreTerm) (r : StreamType) → Unbroken (nodes_of funs counts c e r) → HasType funs counts c e r
      typed c (var_term x) r h =
          let s = of_stream-none x (λ t. of_type t r) (c.types x) (c.past x) h.0 in s.0 ∙ ap Some (of_type-none (type_at c x) r s.1)
      typed c eps_term r h = is_same_type-true r eps (found_where-kept (is_same_type r eps) _ h.0)
      typed c unit_term r h = is_same_type-true r one (found_where-kept (is_same_type r one) _ h.0)
      typed c nil_term r h = is_star-form r (found_where-kept (is_star r) _ h.0)
      typed c (past_term m) r h = (exact c.past m (past r)).0 (option_map-none history_fault (refusal c.past m (past r)) h.0)
      typed c (par_term a b) r h =
          let p = unbroken-append (nodes_of funs counts c a (par_left r)) (nodes_of funs counts c b (par_right r)) h.1 in
          par_typed c a b r (found_where-kept (is_par r) _ h.0) (typed c a (par_left r) p.0) (typed c b (par_right r) p.1)
      typed c (cat_term a b) r h =
          let l = lower-none (of_term (is_cat r) r) (of_order c (free_names a) (free_names b)) h.0 in
          let p = unbroken-append (nodes_of funs counts c a (cat_first r)) (nodes_of funs counts c b (cat_second r)) h.1 in
          cat_typed c a b r (found_where-kept (is_cat r) _ l.0) (typed c a (cat_first r) p.0) (typed c b (cat_second r) p.1) (of_order-none c (free_names a) (free_names b) l.1)
      typed c (cons_term a b) r h =
          let l = lower-none (of_term (is_star r) r) (of_order c (free_names a) (free_names b)) h.0 in
          let p = unbroken-append (nodes_of funs counts c a (star_item r)) (nodes_of funs counts c b (star_items r)) h.1 in
          cons_typed c a b r (found_where-kept (is_star r) _ l.0) (typed c a (star_item r) p.0) (typed c b (star_items r) p.1) (of_order-none c (free_names a) (free_names b) l.1)
      typed c (inl_term a) r h = inl_typed c a r (found_where-kept (is_sum r) _ h.0) (typed c a (sum_left r) h.1)
      typed c (inr_term a) r h = inr_typed c a r (found_where-kept (is_sum r) _ h.0) (typed c a (sum_right r) h.1)
      typed c (let_term x s a b) r h =
          let p = unbroken-append (nodes_of funs counts c a s) (nodes_of funs counts (with_let funs counts x s a c) b r) h.1 in
          (typed c a s p.0, typed (with_let funs counts x s a c) b r p.1)
      typed c (let_par_term x y z a) r h =
          let s = of_stream-none z (of_form is_par) (c.types z) (c.past z) h.0 in
          (s.0 ∙ ap Some (is_par-form (type_at c z) (found_where-kept (is_par (type_at c z)) _ s.1)), typed (with_parts x (par_left (type_at c z)) y (par_right (type_at c z)) z c) a r h.1)
      typed c (let_cat_term x y z a) r h =
          let s = of_stream-none z (of_form is_cat) (c.types z) (c.past z) h.0 in
          (s.0 ∙ ap Some (is_cat-form (type_at c z) (found_where-kept (is_cat (type_at c z)) _ s.1)), typed (with_fact x y (with_parts x (cat_first (type_at c z)) y (cat_second (type_at c z)) z c)) a r h.1)
      typed c (case_sum_term z t x a y b) r h =
          let l = lower-none (of_stream z (of_form is_sum) (c.types z) (c.past z)) (of_type t r) h.0 in
          let s = of_stream-none z (of_form is_sum) (c.types z) (c.past z) l.0 in
          let p = unbroken-append (nodes_of funs counts (with_name_like x (sum_left (type_at c z)) z c) a r) (nodes_of funs counts (with_name_like y (sum_right (type_at c z)) z c) b r) h.1 in
          (of_type-none t r l.1, s.0 ∙ ap Some (is_sum-form (type_at c z) (found_where-kept (is_sum (type_at c z)) _ s.1)), typed (with_name_like x (sum_left (type_at c z)) z c) a r p.0, typed (with_name_like y (sum_right (type_at c z)) z c) b r p.1)
      typed c (case_star_term z t a y ys b) r h =
          let l = lower-none (of_stream z (of_form is_star) (c.types z) (c.past z)) (of_type t r) h.0 in
          let s = of_stream-none z (of_form is_star) (c.types z) (c.past z) l.0 in
          let inner = with_fact y ys (with_parts y (star_item (type_at c z)) ys (star_items (type_at c z)) z c) in
          let p = unbroken-append (nodes_of funs counts c a r) (nodes_of funs counts inner b r) h.1 in
          (of_type-none t r l.1, s.0 ∙ ap Some (is_star-form (type_at c z) (found_where-kept (is_star (type_at c z)) _ s.1)), typed c a r p.0, typed inner b r p.1)
      typed c (wait_term x t a) r h =
          let l = lower-none (of_stream x (λ s. found_where (null_of s) (wait_null x)) (c.types x) (c.past x)) (of_type t r) h.0 in
          let s = of_stream-none x (λ s. found_where (null_of s) (wait_null x)) (c.types x) (c.past x) l.0 in
          (of_type-none t r l.1, s.0, found_where-none (null_of (type_at c x)) _ s.1, typed (waited x c) a r h.1)
      typed c (call_term f ms es) r h = call_typed c f ms es r h.0 (λ n. all_typed c es (leaf_types (fun_at funs f).params) n h.1)

      pub all_typed : (c : Context) (es : CoreTerms) (ts : List StreamType) → term_count es ≡ length ts → Unbroken (nodes_among funs counts c es ts) → HaveTypes funs counts c es ts
      all_typed c no_terms [] n h = tt
      all_typed c no_terms (t ∷ ts) n h = absurd (omega (arith, n))
      all_typed c (term_before e es) [] n h = absurd (omega (arith, n))
      all_typed c (term_before e es) (t ∷ ts) n h =
          let p = unbroken-append (nodes_of funs counts c e t) (nodes_among funs counts c es ts) h in (typed c e t p.0, all_typed c es ts (omega (arith, n)) p.1)

    -- a call that has its type breaks no rule
    call_unbroken : (c : Context) (f : ℕ) (ms : List HistExpr) (es : CoreTerms) (r : StreamType) → HasType funs counts c (call_term f ms es) r → term_count es ≡ length (leaf_types (fun_at funs f).params)
        → broken funs counts refusal c (call_term f ms es) r ≡ None
    call_unbroken c f ms es r h n =
        let b = fun_at funs f in
        let pasts = pasts_unbroken c.past ms (past_types b) h.2 in
        let as_many : length ms ≡ length b.past = pasts.0 ∙ length-map b.past (λ e. e.1) in
        let arity : has_arity b ms es ≡ true = ap (λ t. t && (term_count es == length (leaf_types b.params))) (eq-eqb (length ms) (length b.past) as_many) ∙ eq-eqb (term_count es) (length (leaf_types b.params)) n in
        let passing : of_passing funs counts refusal c b ms es ≡ None =
        lower-both (option_map (λ p. out_of_order p.0 p.1) (first_passed funs counts c b es)) (lower (option_map jumpy (first_jumpy funs counts b es)) (of_pasts funs counts refusal c.past ms (past_types b)))
        (ap (option_map (λ p. out_of_order p.0 p.1)) (passed_unbroken c b es h.4))
        (lower-both (option_map jumpy (first_jumpy funs counts b es)) (of_pasts funs counts refusal c.past ms (past_types b)) (ap (option_map jumpy) (jumpy_unbroken c b es h.4)) pasts.1) in
        ap (λ t. if t then of_call funs counts refusal c f ms es r else Some (other_arity f)) h.0
        ∙ lower-both (of_type b.result r) (if has_arity b ms es then of_passing funs counts refusal c b ms es else Some (other_arity f)) (of_type-same b.result r h.1)
        (ap (λ t. if t then of_passing funs counts refusal c b ms es else Some (other_arity f)) arity ∙ passing)

    mutual
      -- where a term has its type, no node breaks a rule
      pub unbroken : (c : Context) (e : CoreTerm) (r : StreamType) → HasType funs counts c e r → Unbroken (nodes_of funs counts c e r)
      unbroken c (var_term x) r h = (ap (λ t. of_stream x (λ t. of_type t r) t (c.past x)) h ∙ of_type-same r r refl, tt)
      unbroken c eps_term r h = (ap (λ t. of_term (is_same_type t eps) t) h, tt)
      unbroken c unit_term r h = (ap (λ t. of_term (is_same_type t one) t) h, tt)
      unbroken c nil_term r h = (ap (λ t. of_term (is_star t) t) h, tt)
      unbroken c (past_term m) r h = (ap (option_map history_fault) ((exact c.past m (past r)).1 h), tt)
      unbroken c (par_term a b) (par s t) h = (refl, unbroken-joined (nodes_of funs counts c a s) (nodes_of funs counts c b t) (unbroken c a s h.0) (unbroken c b t h.1))
      unbroken c (par_term a b) _ h = absurd h
      unbroken c (cat_term a b) (cat s t) h = (of_order-all c (free_names a) (free_names b) h.2, unbroken-joined (nodes_of funs counts c a s) (nodes_of funs counts c b t) (unbroken c a s h.0) (unbroken c b t h.1))
      unbroken c (cat_term a b) _ h = absurd h
      unbroken c (cons_term a b) (star s) h = (of_order-all c (free_names a) (free_names b) h.2, unbroken-joined (nodes_of funs counts c a s) (nodes_of funs counts c b (star s)) (unbroken c a s h.0) (unbroken c b (star s) h.1))
      unbroken c (cons_term a b) _ h = absurd h
      unbroken c (inl_term a) (sum s t) h = (refl, unbroken c a s h)
      unbroken c (inl_term a) _ h = absurd h
      unbroken c (inr_term a) (sum s t) h = (refl, unbroken c a t h)
      unbroken c (inr_term a) _ h = absurd h
      unbroken c (let_term x s a b) r h =
          (refl, unbroken-joined (nodes_of funs counts c a s) (nodes_of funs counts (with_let funs counts x s a c) b r) (unbroken c a s h.0) (unbroken (with_let funs counts x s a c) b r h.1))
      unbroken c (let_par_term x y z a) r h =
          (ap (λ t. of_stream z (of_form is_par) t (c.past z)) h.0, unbroken (with_parts x (par_left (type_at c z)) y (par_right (type_at c z)) z c) a r h.1)
      unbroken c (let_cat_term x y z a) r h =
          (ap (λ t. of_stream z (of_form is_cat) t (c.past z)) h.0, unbroken (with_fact x y (with_parts x (cat_first (type_at c z)) y (cat_second (type_at c z)) z c)) a r h.1)
      unbroken c (case_sum_term z t x a y b) r h = (
        lower-both (of_stream z (of_form is_sum) (c.types z) (c.past z)) (of_type t r) (ap (λ t. of_stream z (of_form is_sum) t (c.past z)) h.1) (of_type-same t r h.0),
        unbroken-joined (nodes_of funs counts (with_name_like x (sum_left (type_at c z)) z c) a r) (nodes_of funs counts (with_name_like y (sum_right (type_at c z)) z c) b r)
            (unbroken (with_name_like x (sum_left (type_at c z)) z c) a r h.2) (unbroken (with_name_like y (sum_right (type_at c z)) z c) b r h.3),
      )
      unbroken c (case_star_term z t a y ys b) r h = (
        lower-both (of_stream z (of_form is_star) (c.types z) (c.past z)) (of_type t r) (ap (λ t. of_stream z (of_form is_star) t (c.past z)) h.1) (of_type-same t r h.0),
        unbroken-joined (nodes_of funs counts c a r) (nodes_of funs counts (with_fact y ys (with_parts y (star_item (type_at c z)) ys (star_items (type_at c z)) z c)) b r)
            (unbroken c a r h.2) (unbroken (with_fact y ys (with_parts y (star_item (type_at c z)) ys (star_items (type_at c z)) z c)) b r h.3),
      )
      unbroken c (wait_term x t a) r h = (
        lower-both (of_stream x (λ s. found_where (null_of s) (wait_null x)) (c.types x) (c.past x)) (of_type t r)
            (ap (λ t. of_stream x (λ s. found_where (null_of s) (wait_null x)) t (c.past x)) h.1 ∙ ap (λ t. found_where t (wait_null x)) h.2) (of_type-same t r h.0),
        unbroken (waited x c) a r h.3,
      )
      unbroken c (call_term f ms es) r h =
          let others = all_unbroken c es (leaf_types (fun_at funs f).params) h.3 in (call_unbroken c f ms es r h others.0, others.1)

      pub all_unbroken : (c : Context) (es : CoreTerms) (ts : List StreamType) → HaveTypes funs counts c es ts → (term_count es ≡ length ts) × Unbroken (nodes_among funs counts c es ts)
      all_unbroken c no_terms [] h = (refl, tt)
      all_unbroken c no_terms (t ∷ ts) h = absurd h
      all_unbroken c (term_before e es) [] h = absurd h
      all_unbroken c (term_before e es) (t ∷ ts) h =
          let r = all_unbroken c es ts h.1 in let n = r.0 in (omega (arith, n), unbroken-joined (nodes_of funs counts c e t) (nodes_among funs counts c es ts) (unbroken c e t h.0) r.1)

  -- the first node that breaks a rule: none, where none of them does
  pub first_broken-none : (n : ℕ) (js : List NodeAt) → first_broken_of funs counts refusal n js ≡ None → Unbroken js
  first_broken-none n [] h = tt
  first_broken-none n (j ∷ js) h =
      let s = first_some-none (option_map (λ k. (n, k)) (broken funs counts refusal j.context j.term j.wanted)) (first_broken_of funs counts refusal (suc n) js) h in
      (option_map-none (λ k. (n, k)) (broken funs counts refusal j.context j.term j.wanted) s.0, first_broken-none (suc n) js s.1)

  pub first_broken-all : (n : ℕ) (js : List NodeAt) → Unbroken js → first_broken_of funs counts refusal n js ≡ None
  first_broken-all n [] h = refl
  first_broken-all n (j ∷ js) h =
      first_some-both (option_map (λ k. (n, k)) (broken funs counts refusal j.context j.term j.wanted)) (first_broken_of funs counts refusal (suc n) js)
      (ap (option_map (λ k. (n, k))) h.0) (first_broken-all (suc n) js h.1)

-- the bodies of a program, each for itself
module _ (funs : List CoreBody) {Fault : Type 0} (refusal : (ℕ → Option HistType) → HistExpr → HistType → Option Fault) (exact : IsExactRefusal refusal) where
  bodies_typed : (bs : List CoreBody) → Unbroken funs (is_inert_fun funs) refusal (nodes_in_bodies funs bs) → All (IsTypedBody funs) bs
  bodies_typed [] h k d l = absurd (omega (arith, l))
  bodies_typed (b ∷ bs) h zero d l = typed funs (is_inert_fun funs) refusal exact (context_of b) b.body b.result (unbroken-append funs (is_inert_fun funs) refusal (nodes_of_body funs b) (nodes_in_bodies funs bs) h).0
  bodies_typed (b ∷ bs) h (suc k) d l = bodies_typed bs (unbroken-append funs (is_inert_fun funs) refusal (nodes_of_body funs b) (nodes_in_bodies funs bs) h).1 k d (omega (arith, l))

  bodies_unbroken : (bs : List CoreBody) → All (IsTypedBody funs) bs → Unbroken funs (is_inert_fun funs) refusal (nodes_in_bodies funs bs)
  bodies_unbroken [] h = tt
  bodies_unbroken (b ∷ bs) h =
      unbroken-joined funs (is_inert_fun funs) refusal (nodes_of_body funs b) (nodes_in_bodies funs bs) (unbroken funs (is_inert_fun funs) refusal exact (context_of b) b.body b.result (h 0 b (omega arith)))
      (bodies_unbroken bs (λ k d l. h (suc k) d (omega (arith, l))))

-- the first breach of a program, whatever tells exactly what historical expressions do wrong
pub is_unbroken : {Fault : Type 0} (refusal : (ℕ → Option HistType) → HistExpr → HistType → Option Fault) → IsExactRefusal refusal → (c : CoreProgram) → IsTypedCore c ↔ (first_broken refusal c ≡ None)
is_unbroken refusal exact c =
    let funs = c.funs in
    let mine = nodes_of_body funs c.main in
    let others = nodes_in_bodies funs funs in
    let forth : IsTypedCore c → first_broken refusal c ≡ None = λ h.
    first_broken-all funs (is_inert_fun funs) refusal 0 (program_nodes c)
    (unbroken-joined funs (is_inert_fun funs) refusal others mine (bodies_unbroken funs refusal exact funs h.funs_typed) (unbroken funs (is_inert_fun funs) refusal exact (context_of c.main) c.main.body c.main.result h.main_typed)) in
    let back : first_broken refusal c ≡ None → IsTypedCore c = λ h.
    let p = unbroken-append funs (is_inert_fun funs) refusal others mine (first_broken-none funs (is_inert_fun funs) refusal 0 (program_nodes c) h) in
    record { funs_typed = bodies_typed funs refusal exact funs p.0; main_typed = typed funs (is_inert_fun funs) refusal exact (context_of c.main) c.main.body c.main.result p.1 } in
    (forth, back)

-- what is judged tells it exactly
pub expr_refusal_is_exact : IsExactRefusal expr_refusal
expr_refusal_is_exact env m t = (λ h. forth (judge env m (Some t)) refl h, λ g. ap refusal_in ((judge_is_gives env m (Some t) t).1 g))
  where
    forth : (j : Judged) → judge env m (Some t) ≡ j → refusal_in j ≡ None → Gives env m (Some t) t
    forth (good u) e h =
        let g = (judge_is_gives env m (Some t) u).0 e in
        let w : t ≡ u = gives_what_is_wanted env m (Some t) u g in
        subst (λ v. Gives env m (Some t) v) (sym w) g
    forth (bad r) e h = absurd (cc h)

pub typed_is_unbroken : TypedIsUnbroken
typed_is_unbroken c = is_unbroken expr_refusal expr_refusal_is_exact c
