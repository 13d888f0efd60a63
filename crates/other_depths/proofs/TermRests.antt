-- What is left of terms at another depth, where calls leave the same at other depths: what was left, at those.
use Rattle.std.proofs.Common.{◌≡◌, ◌∙◌, ℕ, zero, suc, ◌-◌, ◌≤◌, List, [], ◌∷◌, arith, ap, ap₂, refl, subst, sym}
use Rattle.stream_type.specs.StreamType.{StreamType}
use Rattle.stream_prefix.specs.StreamPrefix.{StreamPrefix, eps_emp, is_maximal, der}
use Rattle.bunch.specs.Names.{put, value_at}
use Rattle.bunch.specs.BunchTree.{leaf_names}
use Rattle.hist_value.specs.HistValue.{HistValue, unit_value}
use Rattle.hist_value.specs.Wholes.{value_of}
use Rattle.core_term.specs.CoreTerm.{CoreTerm, CoreTerms, CoreBody, var_term, eps_term, unit_term, nil_term, past_term, par_term, cat_term, cons_term, inl_term, inr_term, let_term, let_par_term, let_cat_term, case_sum_term, case_star_term, wait_term, call_term, no_terms, term_before, leaf_types, past_names}
use Rattle.core_term.specs.Environment.{Environment, NameTypes}
use Rattle.core_term.specs.Agreement.{types_in}
use Rattle.core_term.specs.Parts.{par_left, par_right, cat_first, cat_second, sum_left, sum_right, star_item, star_items}
use Rattle.core_term.specs.Run.{Run, Runs}
use Rattle.core_term.specs.Meaning.{Past, values, call_at, run_at, run_all}
use Rattle.core_term.proofs.WholeRuns.{cat_calls_first}
use Rattle.delta_state.specs.StateTree.{Known, StateTree, par_state, cat_state, let_state, let_par_state, frame_state, argument_before}
use Rattle.delta_state.specs.StateMeaning.{past_in}
use Rattle.delta_state.specs.Rest.{known_of, rest_with, rest_all, rest_at, call_rest_at}
use Rattle.state_steps.proofs.CalledBodies.{past_known}
use Rattle.other_depths.specs.Depths.{deepened_later, deepened, deepened_arguments}
use Rattle.other_depths.specs.Suits.{SuitsAt}
use Rattle.other_depths.proofs.TermRuns.{terms_same}
use Rattle.other_depths.proofs.Calls.{call_counts, calls_same_at, term_same_at}
use Rattle.other_depths.proofs.SameRests.{SameRest, cat_rest_same, wait_rest_same, cut_same, sum_rest_same, star_rest_same}

-- what calls at the depth k leave, and others, where few are made: the same at g's depths
pub record CallsLeave (g : ℕ → ℕ) (n : ℕ) (funs : ℕ → CoreBody) (k : ℕ) (call_rest other_rest : ℕ → List HistValue → List StreamPrefix → StateTree) : Type 0 where
  pub same : (f : ℕ) (vs : List HistValue) (ps : List StreamPrefix) → SameRest g n (call_at funs k f vs ps) (call_rest f vs ps) (other_rest f vs ps)

module _ (g : ℕ → ℕ) (n : ℕ) (funs : ℕ → CoreBody) (k : ℕ) (deep : n ≤ k) (other_deep : n ≤ g k) (call_rest other_rest : ℕ → List HistValue → List StreamPrefix → StateTree)
    (leave : CallsLeave g n funs k call_rest other_rest) where
  -- the run of a part at the other depth
  part_same : (e : CoreTerm) (T : NameTypes) (r : StreamType) (d : Environment) (es : List Known) → (run_at funs k e T r d (past_in es)).calls ≤ n → run_at funs (g k) e T r d (past_in es) ≡ run_at funs k e T r d (past_in es)
  part_same e T r d es h = term_same_at funs n k (g k) deep other_deep e T r d (past_in es) h

  mutual
    pub term_rest_same : (e : CoreTerm) (T : NameTypes) (r : StreamType) (d : Environment) (es : List Known) → (run_at funs k e T r d (past_in es)).calls ≤ n
        → rest_with funs (g k) other_rest e T r d es ≡ deepened g (rest_with funs k call_rest e T r d es)
    term_rest_same (var_term x) T r d es h = refl
    term_rest_same eps_term T r d es h = refl
    term_rest_same unit_term T r d es h = refl
    term_rest_same nil_term T r d es h = refl
    term_rest_same (past_term m) T r d es h = refl
    term_rest_same (par_term a b) T r d es h = ap₂ par_state (term_rest_same a T (par_left r) d es (omega (arith, h))) (term_rest_same b T (par_right r) d es (omega (arith, h)))
    term_rest_same (cat_term a b) T r d es h =
        let first = run_at funs k a T (cat_first r) d (past_in es) in
        let second = run_at funs k b T (cat_second r) d (past_in es) in
        let i = cat_calls_first first second n h in
        cat_rest_same g n first _ second (part_same a T (cat_first r) d es i) h _ _ _ _
        (record { same = term_rest_same b T (cat_second r) d es })
        (ap (λ s. cat_state s (deepened_later g (record { term = b; past = es; depth = k }))) (term_rest_same a T (cat_first r) d es i))
    term_rest_same (cons_term a b) T r d es h =
        let first = run_at funs k a T (star_item r) d (past_in es) in
        let second = run_at funs k b T (star_items r) d (past_in es) in
        let i = cat_calls_first first second n h in
        cat_rest_same g n first _ second (part_same a T (star_item r) d es i) h _ _ _ _
        (record { same = term_rest_same b T (star_items r) d es })
        (ap (λ s. cat_state s (deepened_later g (record { term = b; past = es; depth = k }))) (term_rest_same a T (star_item r) d es i))
    term_rest_same (inl_term a) T r d es h = term_rest_same a T (sum_left r) d es h
    term_rest_same (inr_term a) T r d es h = term_rest_same a T (sum_right r) d es h
    term_rest_same (let_term x s a b) T r d es h =
        let u = run_at funs k a T s d (past_in es) in
        let head = term_rest_same a T s d es (omega (arith, h)) in
        let body = term_rest_same b (put x s T) r (put x u.out d) es (omega (arith, h)) in
        ap₂ (λ (v : Run) c. let_state x (der v.out s) c (rest_with funs (g k) other_rest b (put x s T) r (put x v.out d) es)) (part_same a T s d es (omega (arith, h))) head
        ∙ ap (let_state x (der u.out s) (deepened g (rest_with funs k call_rest a T s d es))) body
    term_rest_same (let_par_term x y z a) T r d es h = ap (let_par_state x y z) (term_rest_same a _ r _ es h)
    term_rest_same (let_cat_term x y z a) T r d es h = cut_same g n x y z (T z) (d z) _ _ (term_rest_same a _ r _ es h)
    term_rest_same (case_sum_term z t x a y b) T r d es h =
        sum_rest_same g n z x y (T z) r (d z) (λ u. run_at funs k a (put x (sum_left (T z)) T) r (put x u d) (past_in es)) (λ u. run_at funs k b (put y (sum_right (T z)) T) r (put y u d) (past_in es)) h _ _ _ _ _ _ refl
        (λ u. record { same = term_rest_same a (put x (sum_left (T z)) T) r (put x u d) es })
        (λ u. record { same = term_rest_same b (put y (sum_right (T z)) T) r (put y u d) es })
    term_rest_same (case_star_term z t a y ys b) T r d es h =
        star_rest_same g n z y ys (T z) r (d z) (run_at funs k a T r d (past_in es)) (λ u v. run_at funs k b (put ys (star_items (T z)) (put y (star_item (T z)) T)) r (put ys v (put y u d)) (past_in es)) h _ _ _ _ _ _ refl
        (record { same = term_rest_same a T r d es })
        (λ u v. record { same = term_rest_same b (put ys (star_items (T z)) (put y (star_item (T z)) T)) r (put ys v (put y u d)) es })
    term_rest_same (wait_term x t a) T r d es h =
        let known = record { name = x; type = T x; value = value_of (d x) } ∷ es in
        wait_rest_same g n r (is_maximal (d x)) (run_at funs k a T r d (past_in known)) h _ _ _ _ (record { same = term_rest_same a T r d known }) refl
    term_rest_same (call_term f ms os) T r d es h =
        let ts = leaf_types (funs f).params in
        let p = past_in es in
        let args = run_all funs (call_at funs k) os ts T d p in
        ap₂ frame_state (all_rests_same os (leaf_names (funs f).params) ts T d es (omega (arith, h)))
        (ap (λ (u : Runs). other_rest f (values ms p) u.outs) (terms_same n funs (call_at funs k) (call_at funs (g k)) (calls_same_at funs n k (g k) deep other_deep) os ts T d p (omega (arith, h)))
        ∙ (leave.same f (values ms p) args.outs).same (omega (arith, h)))

    -- what is left of the arguments of a call
    pub all_rests_same : (os : CoreTerms) (us : List ℕ) (ts : List StreamType) (T : NameTypes) (d : Environment) (es : List Known) → (run_all funs (call_at funs k) os ts T d (past_in es)).calls ≤ n
        → rest_all funs (g k) other_rest os us ts T d es ≡ deepened_arguments g (rest_all funs k call_rest os us ts T d es)
    all_rests_same no_terms us ts T d es h = refl
    all_rests_same (term_before e os) [] ts T d es h = refl
    all_rests_same (term_before e os) (u ∷ us) [] T d es h = refl
    all_rests_same (term_before e os) (u ∷ us) (t ∷ ts) T d es h =
        ap₂ (λ (v : Run) s. argument_before u (der v.out t) s (rest_all funs (g k) other_rest os us ts T d es)) (part_same e T t d es (omega (arith, h))) (term_rest_same e T t d es (omega (arith, h)))
        ∙ ap (argument_before u (der (run_at funs k e T t d (past_in es)).out t) (deepened g (rest_with funs k call_rest e T t d es))) (all_rests_same os us ts T d es (omega (arith, h)))

-- a step down has the other calls, at the depth below
pub step_suits : (g : ℕ → ℕ) (n k : ℕ) → SuitsAt g (suc n) (suc k) → SuitsAt g n k
step_suits g n k w =
    let step : g (suc k - 1) ≡ g (suc k) - 1 = w.keeps_steps 1 (omega arith) in
    let down : suc k - 1 ≡ k = omega arith in
    let e : g k ≡ g (suc k) - 1 = ap g (sym down) ∙ step in
    record {
      is_deep = omega (arith, w.is_deep);
      other_is_deep = omega (arith, w.other_is_deep, e);
      keeps_steps = λ j h.
          let less : suc k - suc j ≡ k - j = omega arith in
          let f : g (suc k - suc j) ≡ g (suc k) - suc j = w.keeps_steps (suc j) (omega (arith, h)) in
          let i : g (k - j) ≡ g (suc k) - suc j = ap g (sym less) ∙ f in
          omega (arith, i, e);
    }

-- what is in the place of one depth more is one more
pub one_more_deep : (g : ℕ → ℕ) (n k : ℕ) → SuitsAt g (suc n) (suc k) → g (suc k) ≡ suc (g k)
one_more_deep g n k w =
    let step : g (suc k - 1) ≡ g (suc k) - 1 = w.keeps_steps 1 (omega arith) in
    let down : suc k - 1 ≡ k = omega arith in
    let e : g k ≡ g (suc k) - 1 = ap g (sym down) ∙ step in
    omega (arith, e, w.other_is_deep)

module _ (g : ℕ → ℕ) (funs : ℕ → CoreBody) where
  -- a call uses one of the calls, and what its body leaves is at the depth below
  pub calls_leave_at : (n k : ℕ) → SuitsAt g n k → CallsLeave g n funs k (call_rest_at funs k) (call_rest_at funs (g k))
  unfolding call_at call_rest_at
  calls_leave_at zero k w = record { same = λ f vs ps. record { same = λ h. absurd (omega (arith, h, call_counts funs k f vs ps)) } }
  calls_leave_at (suc n) zero w = absurd (omega (arith, w.is_deep))
  calls_leave_at (suc n) (suc k) w = record {
    same = λ f vs ps. record {
      same = λ h.
          let v = step_suits g n k w in
          let b = funs f in
          let T = types_in b.params in
          let d = value_at eps_emp (leaf_names b.params) ps in
          let known = known_of b.past vs in
          let p : Past = value_at unit_value (past_names b) vs in
          let inside : (run_at funs k b.body T b.result d p).calls ≤ n = omega (arith, h) in
          let same : past_in known ≡ p = λ i x. past_known b.past vs x i in
          subst (λ m. call_rest_at funs m f vs ps ≡ deepened g (call_rest_at funs (suc k) f vs ps)) (sym (one_more_deep g n k w))
          (term_rest_same g n funs k v.is_deep v.other_is_deep (call_rest_at funs k) (call_rest_at funs (g k)) (calls_leave_at n k v) b.body T b.result d known
          (subst (λ p. (run_at funs k b.body T b.result d p).calls ≤ n) (sym same) inside));
    };
  }

  -- what is left of a term at another depth
  pub rest_same_at : (n k : ℕ) → SuitsAt g n k → (e : CoreTerm) (T : NameTypes) (r : StreamType) (d : Environment) (es : List Known) → (run_at funs k e T r d (past_in es)).calls ≤ n
      → rest_at funs (g k) e T r d es ≡ deepened g (rest_at funs k e T r d es)
  rest_same_at n k w = term_rest_same g n funs k w.is_deep w.other_is_deep (call_rest_at funs k) (call_rest_at funs (g k)) (calls_leave_at n k w)
