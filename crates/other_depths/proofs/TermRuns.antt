-- Terms over two sorts of calls that are the same where few are made inside: a term with few calls runs the same.
use Rattle.std.proofs.Common.{◌≡◌, ◌∙◌, ℕ, ◌≤◌, List, [], ◌∷◌, arith, ap, ap₂, refl}
use Rattle.stream_type.specs.StreamType.{StreamType, eps}
use Rattle.stream_prefix.specs.StreamPrefix.{StreamPrefix, in_left, in_right, is_maximal}
use Rattle.bunch.specs.Names.{put}
use Rattle.hist_value.specs.HistValue.{HistValue}
use Rattle.hist_value.specs.Wholes.{value_of}
use Rattle.core_term.specs.CoreTerm.{CoreTerm, CoreTerms, CoreBody, var_term, eps_term, unit_term, nil_term, past_term, par_term, cat_term, cons_term, inl_term, inr_term, let_term, let_par_term, let_cat_term, case_sum_term, case_star_term, wait_term, call_term, no_terms, term_before, is_var, leaf_types}
use Rattle.core_term.specs.Environment.{Environment, NameTypes}
use Rattle.core_term.specs.Parts.{par_left, par_right, cat_first, cat_second, sum_left, sum_right, star_item, star_items, as_star}
use Rattle.core_term.specs.Run.{Run, Runs, relabel, par_run, let_run, run_before, call_run}
use Rattle.core_term.specs.Meaning.{Past, Calls, values, run_with, run_all}
use Rattle.other_depths.proofs.SameRuns.{Same, cat_same, sum_same, star_same, wait_same}

-- calls that are the same where at most n are made, those inside and themselves
pub record CallsSame (n : ℕ) (call other : Calls) : Type 0 where
  pub same : (f : ℕ) (vs : List HistValue) (ps : List StreamPrefix) → Same n (call f vs ps) (other f vs ps)

module _ (n : ℕ) (funs : ℕ → CoreBody) (call other : Calls) (calls_same : CallsSame n call other) where
  mutual
    pub term_same : (e : CoreTerm) (T : NameTypes) (r : StreamType) (d : Environment) (p : Past) → (run_with funs call e T r d p).calls ≤ n → run_with funs other e T r d p ≡ run_with funs call e T r d p
    term_same (var_term x) T r d p h = refl
    term_same eps_term T r d p h = refl
    term_same unit_term T r d p h = refl
    term_same nil_term T r d p h = refl
    term_same (past_term m) T r d p h = refl
    term_same (par_term a b) T r d p h = ap₂ par_run (term_same a T (par_left r) d p (omega (arith, h))) (term_same b T (par_right r) d p (omega (arith, h)))
    term_same (cat_term a b) T r d p h = cat_same n _ _ _ _ (record { same = term_same a T (cat_first r) d p }) (record { same = term_same b T (cat_second r) d p }) h
    term_same (cons_term a b) T r d p h =
        ap (relabel as_star) (cat_same n _ _ _ _ (record { same = term_same a T (star_item r) d p }) (record { same = term_same b T (star_items r) d p }) h)
    term_same (inl_term a) T r d p h = ap (relabel in_left) (term_same a T (sum_left r) d p h)
    term_same (inr_term a) T r d p h = ap (relabel in_right) (term_same a T (sum_right r) d p h)
    term_same (let_term x s a b) T r d p h =
        ap (λ (u : Run). let_run (is_var a) u (run_with funs other b (put x s T) r (put x u.out d) p)) (term_same a T s d p (omega (arith, h)))
        ∙ ap (let_run (is_var a) (run_with funs call a T s d p)) (term_same b (put x s T) r (put x (run_with funs call a T s d p).out d) p (omega (arith, h)))
    term_same (let_par_term x y z a) T r d p h = term_same a _ r _ p h
    term_same (let_cat_term x y z a) T r d p h = term_same a _ r _ p h
    term_same (case_sum_term z t x a y b) T r d p h =
        sum_same n r (d z) _ _ _ _ (λ u. record { same = term_same a (put x (sum_left (T z)) T) r (put x u d) p }) (λ u. record { same = term_same b (put y (sum_right (T z)) T) r (put y u d) p }) h
    term_same (case_star_term z t a y ys b) T r d p h =
        star_same n r (d z) _ _ _ _ (record { same = term_same a T r d p })
        (λ u v. record { same = term_same b (put ys (star_items (T z)) (put y (star_item (T z)) T)) r (put ys v (put y u d)) p }) h
    term_same (wait_term x t a) T r d p h = wait_same n r (is_maximal (d x)) _ _ (record { same = term_same a T r d (put x (value_of (d x)) p) }) h
    term_same (call_term f ms es) T r d p h =
        let ts = leaf_types (funs f).params in
        let args = run_all funs call es ts T d p in
        ap (λ (u : Runs). call_run u (other f (values ms p) u.outs)) (terms_same es ts T d p (omega (arith, h)))
        ∙ ap (call_run args) ((calls_same.same f (values ms p) args.outs).same (omega (arith, h)))

    -- arguments
    pub terms_same : (es : CoreTerms) (ts : List StreamType) (T : NameTypes) (d : Environment) (p : Past) → (run_all funs call es ts T d p).calls ≤ n → run_all funs other es ts T d p ≡ run_all funs call es ts T d p
    terms_same no_terms ts T d p h = refl
    terms_same (term_before e es) [] T d p h = ap₂ (run_before (is_var e)) (term_same e T eps d p (omega (arith, h))) (terms_same es [] T d p (omega (arith, h)))
    terms_same (term_before e es) (t ∷ ts) T d p h = ap₂ (run_before (is_var e)) (term_same e T t d p (omega (arith, h))) (terms_same es ts T d p (omega (arith, h)))
