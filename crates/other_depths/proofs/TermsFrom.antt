-- What is left of a term at a depth has that depth less some of the calls that were made.
use Rattle.std.proofs.Common.{◌≡◌, ℕ, zero, suc, ◌+◌, true, List, [], ◌∷◌, arith, subst}
use Rattle.std.proofs.lemmas.List.Elements.{All-weaker}
use Rattle.stream_type.specs.StreamType.{StreamType}
use Rattle.stream_prefix.specs.StreamPrefix.{StreamPrefix, eps_emp, is_maximal}
use Rattle.bunch.specs.Names.{put, holds, value_at}
use Rattle.bunch.specs.BunchTree.{leaf_names}
use Rattle.bunch.proofs.NameLists.{one_name}
use Rattle.hist_value.specs.HistValue.{HistValue, unit_value}
use Rattle.hist_value.specs.Wholes.{value_of}
use Rattle.core_term.specs.CoreTerm.{CoreTerm, CoreTerms, CoreBody, var_term, eps_term, unit_term, nil_term, past_term, par_term, cat_term, cons_term, inl_term, inr_term, let_term, let_par_term, let_cat_term, case_sum_term, case_star_term, wait_term, call_term, no_terms, term_before, leaf_types, past_names}
use Rattle.core_term.specs.Environment.{Environment, NameTypes}
use Rattle.core_term.specs.Agreement.{types_in}
use Rattle.core_term.specs.Parts.{par_left, par_right, cat_first, cat_second, sum_left, sum_right, star_item, star_items}
use Rattle.core_term.specs.Meaning.{Past, values, call_at, run_at, run_all}
use Rattle.core_term.proofs.Sides.{holds-head}
use Rattle.delta_state.specs.StateTree.{Known, StateTree, laters_of, laters_in}
use Rattle.delta_state.specs.StateMeaning.{past_in}
use Rattle.delta_state.specs.Rest.{known_of, rest_with, rest_all, rest_at, call_rest_at}
use Rattle.state_steps.proofs.CalledBodies.{past_known}
use Rattle.other_depths.specs.Suits.{ComesFrom}
use Rattle.other_depths.proofs.FormsFrom.{AllFrom, none_from, both_from, last_from, one_from, two_from, cat_from, wait_from, cut_from, sum_from, star_from}

module _ (depths : List ℕ) (funs : ℕ → CoreBody) (k : ℕ) (there : holds k depths ≡ true) (call_rest : ℕ → List HistValue → List StreamPrefix → StateTree)
    (leave : (f : ℕ) (vs : List HistValue) (ps : List StreamPrefix) → AllFrom depths (call_at funs k f vs ps).calls (laters_of (call_rest f vs ps))) where
  mutual
    pub term_from : (e : CoreTerm) (T : NameTypes) (r : StreamType) (d : Environment) (es : List Known) → AllFrom depths (run_at funs k e T r d (past_in es)).calls (laters_of (rest_with funs k call_rest e T r d es))
    term_from (var_term x) T r d es = none_from depths 0
    term_from eps_term T r d es = none_from depths 0
    term_from unit_term T r d es = none_from depths 0
    term_from nil_term T r d es = none_from depths 0
    term_from (past_term m) T r d es = none_from depths 0
    term_from (par_term a b) T r d es = both_from depths _ _ _ _ (term_from a T (par_left r) d es) (term_from b T (par_right r) d es)
    term_from (cat_term a b) T r d es =
        let first = run_at funs k a T (cat_first r) d (past_in es) in
        cat_from depths first (run_at funs k b T (cat_second r) d (past_in es)) _ _ (term_from b T (cat_second r) d es)
        (last_from depths first.calls _ (record { term = b; past = es; depth = k }) (term_from a T (cat_first r) d es) there)
    term_from (cons_term a b) T r d es =
        let first = run_at funs k a T (star_item r) d (past_in es) in
        cat_from depths first (run_at funs k b T (star_items r) d (past_in es)) _ _ (term_from b T (star_items r) d es)
        (last_from depths first.calls _ (record { term = b; past = es; depth = k }) (term_from a T (star_item r) d es) there)
    term_from (inl_term a) T r d es = term_from a T (sum_left r) d es
    term_from (inr_term a) T r d es = term_from a T (sum_right r) d es
    term_from (let_term x s a b) T r d es =
        both_from depths _ _ _ _ (term_from a T s d es) (term_from b (put x s T) r (put x (run_at funs k a T s d (past_in es)).out d) es)
    term_from (let_par_term x y z a) T r d es = term_from a _ r _ es
    term_from (let_cat_term x y z a) T r d es = cut_from depths _ x y z (T z) (d z) _ (term_from a _ r _ es)
    term_from (case_sum_term z t x a y b) T r d es =
        sum_from depths z x y (T z) r (d z) (λ u. run_at funs k a (put x (sum_left (T z)) T) r (put x u d) (past_in es)) (λ u. run_at funs k b (put y (sum_right (T z)) T) r (put y u d) (past_in es)) _ _ _
        (two_from depths 0 (record { term = a; past = es; depth = k }) (record { term = b; past = es; depth = k }) there there)
        (λ u. term_from a (put x (sum_left (T z)) T) r (put x u d) es) (λ u. term_from b (put y (sum_right (T z)) T) r (put y u d) es)
    term_from (case_star_term z t a y ys b) T r d es =
        star_from depths z y ys (T z) r (d z) (run_at funs k a T r d (past_in es)) (λ u v. run_at funs k b (put ys (star_items (T z)) (put y (star_item (T z)) T)) r (put ys v (put y u d)) (past_in es)) _ _ _
        (two_from depths 0 (record { term = a; past = es; depth = k }) (record { term = b; past = es; depth = k }) there there)
        (term_from a T r d es) (λ u v. term_from b (put ys (star_items (T z)) (put y (star_item (T z)) T)) r (put ys v (put y u d)) es)
    term_from (wait_term x t a) T r d es =
        let known = record { name = x; type = T x; value = value_of (d x) } ∷ es in
        wait_from depths r (is_maximal (d x)) (run_at funs k a T r d (past_in known)) _ _ (term_from a T r d known) (one_from depths 0 (record { term = a; past = es; depth = k }) there)
    term_from (call_term f ms os) T r d es =
        let ts = leaf_types (funs f).params in
        both_from depths _ _ _ _ (terms_from os (leaf_names (funs f).params) ts T d es) (leave f (values ms (past_in es)) (run_all funs (call_at funs k) os ts T d (past_in es)).outs)

    -- arguments
    pub terms_from : (os : CoreTerms) (us : List ℕ) (ts : List StreamType) (T : NameTypes) (d : Environment) (es : List Known)
        → AllFrom depths (run_all funs (call_at funs k) os ts T d (past_in es)).calls (laters_in (rest_all funs k call_rest os us ts T d es))
    terms_from no_terms us ts T d es = none_from depths 0
    terms_from (term_before e os) [] ts T d es = none_from depths _
    terms_from (term_before e os) (u ∷ us) [] T d es = none_from depths _
    terms_from (term_before e os) (u ∷ us) (t ∷ ts) T d es = both_from depths _ _ _ _ (term_from e T t d es) (terms_from os us ts T d es)

-- what comes from one depth comes from depths among which it is
pub among_from : (depths : List ℕ) (n k d : ℕ) → holds k depths ≡ true → ComesFrom (k ∷ []) n d → ComesFrom depths n d
among_from depths n k d there w =
    let e : w.before ≡ k = one_name w.before k w.is_there in
    record { before = k; is_there = there; steps = w.steps; in_calls = w.in_calls; is_less = omega (arith, e, w.is_less) }

-- what comes from a depth comes from the one above with one call more
pub above_from : (n k d : ℕ) → ComesFrom (k ∷ []) n d → ComesFrom (suc k ∷ []) (1 + n) d
above_from n k d w =
    let e : w.before ≡ k = one_name w.before k w.is_there in
    record { before = suc k; is_there = holds-head (suc k) []; steps = suc w.steps; in_calls = omega (arith, w.in_calls); is_less = omega (arith, e, w.is_less) }

module _ (funs : ℕ → CoreBody) where
  -- at depth 0 a call leaves no code, and else its body is at the depth below
  pub call_from : (k f : ℕ) (vs : List HistValue) (ps : List StreamPrefix) → AllFrom (k ∷ []) (call_at funs k f vs ps).calls (laters_of (call_rest_at funs k f vs ps))
  unfolding call_at call_rest_at
  call_from zero f vs ps = none_from (0 ∷ []) 1
  call_from (suc k) f vs ps =
      let b = funs f in
      let T = types_in b.params in
      let d = value_at eps_emp (leaf_names b.params) ps in
      let known = known_of b.past vs in
      let p : Past = value_at unit_value (past_names b) vs in
      let same : past_in known ≡ p = λ i x. past_known b.past vs x i in
      let ls = laters_of (rest_at funs k b.body T b.result d known) in
      let n = (run_at funs k b.body T b.result d p).calls in
      let inside = subst (λ p. AllFrom (k ∷ []) (run_at funs k b.body T b.result d p).calls ls) same (term_from (k ∷ []) funs k (holds-head k []) (call_rest_at funs k) (call_from k) b.body T b.result d known) in
      All-weaker (λ l. ComesFrom (k ∷ []) n l.depth) (λ l. ComesFrom (suc k ∷ []) (1 + n) l.depth) (λ l w. above_from n k l.depth w) ls inside

  -- what is left of a term
  pub rest_from : (k : ℕ) (e : CoreTerm) (T : NameTypes) (r : StreamType) (d : Environment) (es : List Known) → AllFrom (k ∷ []) (run_at funs k e T r d (past_in es)).calls (laters_of (rest_at funs k e T r d es))
  rest_from k = term_from (k ∷ []) funs k (holds-head k []) (call_rest_at funs k) (call_from k)
