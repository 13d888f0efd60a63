-- A run depends on the free names alone.
use Rattle.std.proofs.Common.{◌≡◌, ◌∙◌, ℕ, Bool, true, false, not, ◌&&◌, ◌||◌, List, [], ◌∷◌, ◌++◌, eqb, if◌then◌else◌, ap, ap₂, refl}
use Rattle.std.proofs.lemmas.Bool.{or_left, or_right}
use Rattle.stream_type.specs.StreamType.{StreamType, eps}
use Rattle.stream_prefix.specs.StreamPrefix.{StreamPrefix, in_left, in_right, star_emp, star_done, star_first, star_rest, is_maximal}
use Rattle.bunch.specs.Names.{holds, put}
use Rattle.hist_value.specs.HistExpr.{HistExpr}
use Rattle.hist_value.specs.HistValue.{HistValue}
use Rattle.hist_value.specs.FreeNames.{is_free}
use Rattle.hist_value.specs.Wholes.{value_of, full}
use Rattle.hist_value.proofs.FreeValues.{value_of_free_names}
use Rattle.core_term.specs.CoreTerm.{CoreTerm, CoreTerms, CoreBody, var_term, eps_term, unit_term, nil_term, past_term, par_term, cat_term, cons_term, inl_term, inr_term, let_term, let_par_term, let_cat_term, case_sum_term, case_star_term, wait_term, call_term, no_terms, term_before, is_var, leaf_types}
use Rattle.core_term.specs.FreeNames.{without, free_names, free_in_terms}
use Rattle.core_term.specs.FreePast.{is_free_in_some, is_free_past, is_free_past_among}
use Rattle.core_term.specs.Environment.{Environment, NameTypes}
use Rattle.core_term.specs.Parts.{par_left, par_right, cat_first, cat_second, sum_left, sum_right, star_item, star_items, left_part, right_part, first_part, second_part, as_star}
use Rattle.core_term.specs.Run.{Run, quiet, relabel, par_run, cat_run, let_run, sum_run, star_run, wait_run, run_before, call_run}
use Rattle.core_term.specs.Meaning.{Past, Calls, values, run_with, run_all, call_at}
use Rattle.core_term.specs.MeaningLaws.{RunOfFreeNames}
use Rattle.core_term.proofs.Sides.{holds-head, holds-left, holds-right}
use Rattle.core_term.proofs.Without.{holds-without, holds-tail}

-- at these names both have the same types and the same prefixes
pub record Alike (names : List ℕ) (types other_types : NameTypes) (env other_env : Environment) : Type 0 where
  pub at : (x : ℕ) → holds x names ≡ true → (types x ≡ other_types x) × (env x ≡ other_env x)

-- where the test holds, both have the same values
pub record AlikePast (test : ℕ → Bool) (past other_past : Past) : Type 0 where
  pub at : (z : ℕ) → test z ≡ true → past z ≡ other_past z

pub alike_put : (x : ℕ) (names : List ℕ) (T U : NameTypes) (d e : Environment) (s t : StreamType) (p q : StreamPrefix) → s ≡ t → p ≡ q → Alike (without x names) T U d e
    → Alike names (put x s T) (put x t U) (put x p d) (put x q e)
alike_put x names T U d e s t p q es ep h = record { at = λ y m. go y m (eqb y x) refl }
  where
    go : (y : ℕ) → holds y names ≡ true → (b : Bool) → eqb y x ≡ b → ((if b then s else T y) ≡ (if b then t else U y)) × ((if b then p else d y) ≡ (if b then q else e y))
    go y m true k = (es, ep)
    go y m false k = h.at y (holds-without y x names k m)

pub alike_left : (xs ys : List ℕ) (T U : NameTypes) (d e : Environment) → Alike (xs ++ ys) T U d e → Alike xs T U d e
alike_left xs ys T U d e h = record { at = λ x m. h.at x (holds-left x xs ys m) }

pub alike_right : (xs ys : List ℕ) (T U : NameTypes) (d e : Environment) → Alike (xs ++ ys) T U d e → Alike ys T U d e
alike_right xs ys T U d e h = record { at = λ x m. h.at x (holds-right x xs ys m) }

pub alike_head : (z : ℕ) (xs : List ℕ) (T U : NameTypes) (d e : Environment) → Alike (z ∷ xs) T U d e → (T z ≡ U z) × (d z ≡ e z)
alike_head z xs T U d e h = h.at z (holds-head z xs)

pub alike_tail : (z : ℕ) (xs : List ℕ) (T U : NameTypes) (d e : Environment) → Alike (z ∷ xs) T U d e → Alike xs T U d e
alike_tail z xs T U d e h = record { at = λ x m. h.at x (holds-tail x z xs m) }

past_left : (f g : ℕ → Bool) (p q : Past) → AlikePast (λ z. f z || g z) p q → AlikePast f p q
past_left f g p q h = record { at = λ z m. h.at z (or_left (f z) (g z) m) }

past_right : (f g : ℕ → Bool) (p q : Past) → AlikePast (λ z. f z || g z) p q → AlikePast g p q
past_right f g p q h = record { at = λ z m. h.at z (or_right (f z) (g z) m) }

past_under : (f : ℕ → Bool) (x : ℕ) (v : HistValue) (p q : Past) → AlikePast (λ z. not (eqb z x) && f z) p q → AlikePast f (put x v p) (put x v q)
past_under f x v p q h = record { at = λ z m. go (eqb z x) (f z) (p z) (q z) (h.at z) m }
  where
    go : (b c : Bool) (a a' : HistValue) → ((not b && c) ≡ true → a ≡ a') → c ≡ true → (if b then v else a) ≡ (if b then v else a')
    go true c a a' k m = refl
    go false c a a' k m = k m

values_alike : (ms : List HistExpr) (p q : Past) → AlikePast (λ z. is_free_in_some z ms) p q → values ms p ≡ values ms q
values_alike [] p q h = refl
values_alike (m ∷ ms) p q h =
    ap₂ ◌∷◌ (value_of_free_names m p q (past_left (λ z. is_free z m) (λ z. is_free_in_some z ms) p q h).at) (values_alike ms p q (past_right (λ z. is_free z m) (λ z. is_free_in_some z ms) p q h))

-- cases with equal branches
pub sum_run-same : (r : StreamType) (p : StreamPrefix) (a a' b b' : StreamPrefix → Run) → ((p : StreamPrefix) → a p ≡ a' p) → ((p : StreamPrefix) → b p ≡ b' p) → sum_run r p a b ≡ sum_run r p a' b'
sum_run-same r (in_left p) a a' b b' ea eb = ea p
sum_run-same r (in_right p) a a' b b' ea eb = eb p
sum_run-same r _ a a' b b' ea eb = refl

pub star_run-same : (r : StreamType) (p : StreamPrefix) (a a' : Run) (b b' : StreamPrefix → StreamPrefix → Run) → a ≡ a' → ((p q : StreamPrefix) → b p q ≡ b' p q) → star_run r p a b ≡ star_run r p a' b'
star_run-same r star_done a a' b b' ea eb = ea
star_run-same r (star_first p) a a' b b' ea eb = eb p star_emp
star_run-same r (star_rest p q) a a' b b' ea eb = eb p q
star_run-same r _ a a' b b' ea eb = refl

module _ (funs : ℕ → CoreBody) (call : Calls) where
  mutual
    pub same_run : (e : CoreTerm) (T U : NameTypes) (r : StreamType) (d d' : Environment) (p q : Past) → Alike (free_names e) T U d d' → AlikePast (λ z. is_free_past z e) p q
        → run_with funs call e T r d p ≡ run_with funs call e U r d' q
    same_run (var_term x) T U r d d' p q h k = ap quiet (alike_head x [] T U d d' h).1
    same_run eps_term T U r d d' p q h k = refl
    same_run unit_term T U r d d' p q h k = refl
    same_run nil_term T U r d d' p q h k = refl
    same_run (past_term m) T U r d d' p q h k = ap (λ v. quiet (full r v)) (value_of_free_names m p q k.at)
    same_run (par_term a b) T U r d d' p q h k =
        ap₂ par_run (same_run a T U (par_left r) d d' p q (alike_left (free_names a) (free_names b) T U d d' h) (past_left (λ z. is_free_past z a) (λ z. is_free_past z b) p q k))
        (same_run b T U (par_right r) d d' p q (alike_right (free_names a) (free_names b) T U d d' h) (past_right (λ z. is_free_past z a) (λ z. is_free_past z b) p q k))
    same_run (cat_term a b) T U r d d' p q h k =
        ap₂ cat_run (same_run a T U (cat_first r) d d' p q (alike_left (free_names a) (free_names b) T U d d' h) (past_left (λ z. is_free_past z a) (λ z. is_free_past z b) p q k))
        (same_run b T U (cat_second r) d d' p q (alike_right (free_names a) (free_names b) T U d d' h) (past_right (λ z. is_free_past z a) (λ z. is_free_past z b) p q k))
    same_run (cons_term a b) T U r d d' p q h k =
        ap₂ (λ u v. relabel as_star (cat_run u v)) (same_run a T U (star_item r) d d' p q (alike_left (free_names a) (free_names b) T U d d' h) (past_left (λ z. is_free_past z a) (λ z. is_free_past z b) p q k))
        (same_run b T U (star_items r) d d' p q (alike_right (free_names a) (free_names b) T U d d' h) (past_right (λ z. is_free_past z a) (λ z. is_free_past z b) p q k))
    same_run (inl_term a) T U r d d' p q h k = ap (relabel in_left) (same_run a T U (sum_left r) d d' p q h k)
    same_run (inr_term a) T U r d d' p q h k = ap (relabel in_right) (same_run a T U (sum_right r) d d' p q h k)
    same_run (let_term x s a b) T U r d d' p q h k =
        let ha = same_run a T U s d d' p q (alike_left (free_names a) (without x (free_names b)) T U d d' h) (past_left (λ z. is_free_past z a) (λ z. is_free_past z b) p q k) in
        ap₂ (let_run (is_var a)) ha
        (same_run b (put x s T) (put x s U) r (put x (run_with funs call a T s d p).out d) (put x (run_with funs call a U s d' q).out d') p q
        (alike_put x (free_names b) T U d d' s s (run_with funs call a T s d p).out (run_with funs call a U s d' q).out refl (ap (λ u. u.out) ha) (alike_right (free_names a) (without x (free_names b)) T U d d' h))
        (past_right (λ z. is_free_past z a) (λ z. is_free_past z b) p q k))
    same_run (let_par_term x y z a) T U r d d' p q h k =
        let hz = alike_head z (without x (without y (free_names a))) T U d d' h in
        let ht = alike_tail z (without x (without y (free_names a))) T U d d' h in
        same_run a _ _ r _ _ p q
        (alike_put y (free_names a) (put x (par_left (T z)) T) (put x (par_left (U z)) U) (put x (left_part (d z)) d) (put x (left_part (d' z)) d') (par_right (T z)) (par_right (U z)) (right_part (d z)) (right_part (d' z)) (ap par_right hz.0) (ap right_part hz.1)
        (alike_put x (without y (free_names a)) T U d d' (par_left (T z)) (par_left (U z)) (left_part (d z)) (left_part (d' z)) (ap par_left hz.0) (ap left_part hz.1) ht))
        k
    same_run (let_cat_term x y z a) T U r d d' p q h k =
        let hz = alike_head z (without x (without y (free_names a))) T U d d' h in
        let ht = alike_tail z (without x (without y (free_names a))) T U d d' h in
        same_run a _ _ r _ _ p q
        (alike_put y (free_names a) (put x (cat_first (T z)) T) (put x (cat_first (U z)) U) (put x (first_part (d z)) d) (put x (first_part (d' z)) d') (cat_second (T z)) (cat_second (U z)) (second_part (cat_second (T z)) (d z)) (second_part (cat_second (U z)) (d' z)) (ap cat_second hz.0) (ap₂ (λ t u. second_part (cat_second t) u) hz.0 hz.1)
        (alike_put x (without y (free_names a)) T U d d' (cat_first (T z)) (cat_first (U z)) (first_part (d z)) (first_part (d' z)) (ap cat_first hz.0) (ap first_part hz.1) ht))
        k
    same_run (case_sum_term z t x a y b) T U r d d' p q h k =
        let hz = alike_head z (without x (free_names a) ++ without y (free_names b)) T U d d' h in
        let ht = alike_tail z (without x (free_names a) ++ without y (free_names b)) T U d d' h in
        let ha = alike_left (without x (free_names a)) (without y (free_names b)) T U d d' ht in
        let hb = alike_right (without x (free_names a)) (without y (free_names b)) T U d d' ht in
        let ka = past_left (λ z. is_free_past z a) (λ z. is_free_past z b) p q k in
        let kb = past_right (λ z. is_free_past z a) (λ z. is_free_past z b) p q k in
        ap (λ c. sum_run r c (λ c. run_with funs call a (put x (sum_left (T z)) T) r (put x c d) p) (λ c. run_with funs call b (put y (sum_right (T z)) T) r (put y c d) p)) hz.1
        ∙ sum_run-same r (d' z) _ _ _ _
        (λ c. same_run a _ _ r _ _ p q (alike_put x (free_names a) T U d d' (sum_left (T z)) (sum_left (U z)) c c (ap sum_left hz.0) refl ha) ka)
        (λ c. same_run b _ _ r _ _ p q (alike_put y (free_names b) T U d d' (sum_right (T z)) (sum_right (U z)) c c (ap sum_right hz.0) refl hb) kb)
    same_run (case_star_term z t a y ys b) T U r d d' p q h k =
        let hz = alike_head z (free_names a ++ without y (without ys (free_names b))) T U d d' h in
        let ht = alike_tail z (free_names a ++ without y (without ys (free_names b))) T U d d' h in
        let ha = alike_left (free_names a) (without y (without ys (free_names b))) T U d d' ht in
        let hb = alike_right (free_names a) (without y (without ys (free_names b))) T U d d' ht in
        let ka = past_left (λ z. is_free_past z a) (λ z. is_free_past z b) p q k in
        let kb = past_right (λ z. is_free_past z a) (λ z. is_free_past z b) p q k in
        ap (λ c. star_run r c (run_with funs call a T r d p) (λ c e. run_with funs call b (put ys (star_items (T z)) (put y (star_item (T z)) T)) r (put ys e (put y c d)) p)) hz.1
        ∙ star_run-same r (d' z) _ _ _ _ (same_run a T U r d d' p q ha ka)
        (λ c e. same_run b _ _ r _ _ p q
        (alike_put ys (free_names b) (put y (star_item (T z)) T) (put y (star_item (U z)) U) (put y c d) (put y c d') (star_items (T z)) (star_items (U z)) e e (ap star_items hz.0) refl
        (alike_put y (without ys (free_names b)) T U d d' (star_item (T z)) (star_item (U z)) c c (ap star_item hz.0) refl hb)) kb)
    same_run (wait_term x t a) T U r d d' p q h k =
        let hx = alike_head x (free_names a) T U d d' h in
        ap (λ c. wait_run r (is_maximal c) (run_with funs call a T r d (put x (value_of c) p))) hx.1
        ∙ ap (wait_run r (is_maximal (d' x))) (same_run a T U r d d' (put x (value_of (d' x)) p) (put x (value_of (d' x)) q) (alike_tail x (free_names a) T U d d' h) (past_under (λ z. is_free_past z a) x (value_of (d' x)) p q k))
    same_run (call_term f ms es) T U r d d' p q h k =
        ap₂ (λ u v. call_run u (call f v u.outs)) (same_runs es (leaf_types (funs f).params) T U d d' p q h (past_right (λ z. is_free_in_some z ms) (λ z. is_free_past_among z es) p q k))
        (values_alike ms p q (past_left (λ z. is_free_in_some z ms) (λ z. is_free_past_among z es) p q k))

    pub same_runs : (es : CoreTerms) (ts : List StreamType) (T U : NameTypes) (d d' : Environment) (p q : Past) → Alike (free_in_terms es) T U d d' → AlikePast (λ z. is_free_past_among z es) p q
        → run_all funs call es ts T d p ≡ run_all funs call es ts U d' q
    same_runs no_terms ts T U d d' p q h k = refl
    same_runs (term_before e es) [] T U d d' p q h k =
        ap₂ (run_before (is_var e)) (same_run e T U eps d d' p q (alike_left (free_names e) (free_in_terms es) T U d d' h) (past_left (λ z. is_free_past z e) (λ z. is_free_past_among z es) p q k))
        (same_runs es [] T U d d' p q (alike_right (free_names e) (free_in_terms es) T U d d' h) (past_right (λ z. is_free_past z e) (λ z. is_free_past_among z es) p q k))
    same_runs (term_before e es) (t ∷ ts) T U d d' p q h k =
        ap₂ (run_before (is_var e)) (same_run e T U t d d' p q (alike_left (free_names e) (free_in_terms es) T U d d' h) (past_left (λ z. is_free_past z e) (λ z. is_free_past_among z es) p q k))
        (same_runs es ts T U d d' p q (alike_right (free_names e) (free_in_terms es) T U d d' h) (past_right (λ z. is_free_past z e) (λ z. is_free_past_among z es) p q k))

pub run_of_free_names : RunOfFreeNames
run_of_free_names funs k e T U r d d' p q h g = same_run funs (call_at funs k) e T U r d d' p q (record { at = h }) (record { at = g })
