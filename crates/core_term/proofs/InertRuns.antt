-- A typed inert term gives the empty prefix where nothing has come on its free names.
use Rattle.std.proofs.Common.{◌≡◌, ◌∙◌, ℕ, zero, suc, Bool, true, false, true≢false, not, ◌&&◌, List, [], ◌∷◌, ◌++◌, ap, ap₂, refl, sym}
use Rattle.std.specs.Prelude.{Some}
use Rattle.std.proofs.lemmas.Bool.{not-true}
use Rattle.stream_type.specs.StreamType.{StreamType, null_of}
use Rattle.stream_prefix.specs.StreamPrefix.{StreamPrefix, eps_emp, par_both, cat_fst, sum_emp, star_emp, emp, is_maximal}
use Rattle.stream_prefix.proofs.Derivations.{derives, is_prefix}
use Rattle.stream_prefix.proofs.Joins.{emp_is_prefix, is_maximal-emp}
use Rattle.stream_prefix.proofs.MaximalPrefixes.{null_is_emp}
use Rattle.bunch.specs.Names.{put, value_at}
use Rattle.bunch.specs.BunchTree.{leaf_names, as_type}
use Rattle.bunch.specs.Facts.{Facts}
use Rattle.bunch.proofs.Tests.{and_first, and_second}
use Rattle.hist_value.specs.HistType.{past}
use Rattle.hist_value.specs.HistValue.{HistValue, unit_value}
use Rattle.hist_value.specs.Evaluate.{value}
use Rattle.hist_value.specs.Wholes.{value_of, full}
use Rattle.hist_value.specs.Laws.{HasTypes}
use Rattle.hist_value.proofs.TypedValues.{value_has_type}
use Rattle.hist_value.proofs.WholeLaws.{full_is_prefix}
use Rattle.core_term.specs.CoreTerm.{CoreTerm, CoreTerms, CoreBody, leaf_types, past_names, past_types, fun_at}
use Rattle.core_term.specs.FreeNames.{without, free_names, free_in_terms}
use Rattle.core_term.specs.Environment.{Environment, NameTypes, IsEmptyOn}
use Rattle.core_term.specs.Agreement.{types_in}
use Rattle.core_term.specs.Split.{split}
use Rattle.core_term.specs.Inert.{has_arity, is_inert, are_inert, is_inert_fun}
use Rattle.core_term.specs.Parts.{par_left, par_right, cat_first, cat_second, sum_left, sum_right, star_item, star_items, left_part, right_part, first_part, second_part}
use Rattle.core_term.specs.Run.{Run, relabel, cat_run_at, cat_run, sum_run, star_run, wait_run}
use Rattle.core_term.specs.Meaning.{Past, run_all, call_at, run_at, no_past, horizon}
use Rattle.core_term.specs.Typing.{context_of}
use Rattle.core_term.specs.MeaningLaws.{InertGivesNothing, InertMainGivesNothing}
use Rattle.core_term.proofs.Sides.{holds-head, holds-left, holds-right}
use Rattle.core_term.proofs.Without.{holds-tail, put_on}
use Rattle.core_term.proofs.TypedTerms.{PastTypes, Typed, TypedAll, var_typed, eps_typed, unit_typed, nil_typed, past_typed, par_typed, cat_typed, cons_typed, inl_typed, inr_typed, let_typed, let_par_typed, let_cat_typed, case_sum_typed, case_star_typed, wait_typed, call_typed, none_typed, more_typed}
use Rattle.core_term.proofs.Parameters.{PastValues, Empties, no_empties, empty_before, params_empty, values_have, past_params_have}
use Rattle.core_term.proofs.Monotone.{TypedBodies}
use Rattle.core_term.proofs.TypedRuns.{Any, typed_bodies, derivation, cut, run_of_cut, cut_alike, free_are_streams, main_fits, main_typed}
use Rattle.core_term.proofs.Splits.{split_of_empty}
use Rattle.core_term.proofs.InertFunctions.{inert_bodies}

-- nothing has come on these names
pub record EmptyOn (xs : List ℕ) (T : NameTypes) (d : Environment) : Type 0 where
  pub at : IsEmptyOn xs T d

empty_left : (xs ys : List ℕ) (T : NameTypes) (d : Environment) → EmptyOn (xs ++ ys) T d → EmptyOn xs T d
empty_left xs ys T d h = record { at = λ x m. h.at x (holds-left x xs ys m) }

empty_right : (xs ys : List ℕ) (T : NameTypes) (d : Environment) → EmptyOn (xs ++ ys) T d → EmptyOn ys T d
empty_right xs ys T d h = record { at = λ x m. h.at x (holds-right x xs ys m) }

empty_tail : (z : ℕ) (xs : List ℕ) (T : NameTypes) (d : Environment) → EmptyOn (z ∷ xs) T d → EmptyOn xs T d
empty_tail z xs T d h = record { at = λ x m. h.at x (holds-tail x z xs m) }

pub empty_put : (x : ℕ) (s : StreamType) (p : StreamPrefix) (T : NameTypes) (d : Environment) (xs : List ℕ) → p ≡ emp s → EmptyOn (without x xs) T d → EmptyOn xs (put x s T) (put x p d)
empty_put x s p T d xs e h = record { at = put_on (λ t q. q ≡ emp t) x s p T d xs e h.at }

-- where the first part gives nothing, of a type that isn't null, the second doesn't run
pub cat_run-nothing : (s : StreamType) (a b : Run) → a.out ≡ emp s → null_of s ≡ false → cat_run a b ≡ relabel cat_fst a
cat_run-nothing s a b e n = ap (λ c. cat_run_at c a b) (ap is_maximal e ∙ (is_maximal-emp s ∙ n))

module _ (funs : ℕ → CoreBody) (counts : ℕ → Bool) (Apart : ℕ → ℕ → Type 0) (k : ℕ)
    (calls_empty : (f : ℕ) (vs : List HistValue) (ps : List StreamPrefix) → counts f ≡ true → PastValues (past_types (funs f)) vs → Empties (leaf_types (funs f).params) ps → (call_at funs k f vs ps).out ≡ emp (funs f).result) where
  mutual
    nothing_given : {T : NameTypes} {O : Facts} {H : PastTypes} {e : CoreTerm} {r : StreamType} → Typed funs counts Apart T O H e r → is_inert funs counts e r ≡ true → (d : Environment) (p : Past) → HasTypes H p → EmptyOn (free_names e) T d
        → (run_at funs k e T r d p).out ≡ emp r
    nothing_given (var_typed {x = x} e) i d p f h = h.at x (holds-head x []) ∙ ap emp e
    nothing_given eps_typed i d p f h = refl
    nothing_given unit_typed i d p f h = absurd (true≢false (sym i))
    nothing_given nil_typed i d p f h = absurd (true≢false (sym i))
    nothing_given (past_typed {H = H} {m = m} {r = r} g) i d p f h =
        null_is_emp (derives r (full r (value m p)) (full_is_prefix r (value m p) (value_has_type H p f m (Some (past r)) (past r) g))) i
    nothing_given (par_typed {a = a} {b = b} {s = s} {t = t} u v) i d p f h =
        ap₂ par_both (nothing_given u (and_first (is_inert funs counts a s) (is_inert funs counts b t) i) d p f (empty_left (free_names a) (free_names b) _ d h))
        (nothing_given v (and_second (is_inert funs counts a s) (is_inert funs counts b t) i) d p f (empty_right (free_names a) (free_names b) _ d h))
    nothing_given (cat_typed {T = T} {a = a} {b = b} {s = s} {t = t} u v o) i d p f h =
        let e = nothing_given u (and_first (is_inert funs counts a s) (not (null_of s)) i) d p f (empty_left (free_names a) (free_names b) T d h) in
        ap (λ w. w.out) (cat_run-nothing s (run_at funs k a T s d p) (run_at funs k b T t d p) e (not-true (null_of s) (and_second (is_inert funs counts a s) (not (null_of s)) i))) ∙ ap cat_fst e
    nothing_given (cons_typed u v o) i d p f h = absurd (true≢false (sym i))
    nothing_given (inl_typed u) i d p f h = absurd (true≢false (sym i))
    nothing_given (inr_typed u) i d p f h = absurd (true≢false (sym i))
    nothing_given (let_typed {T = T} {x = x} {s = s} {r = r} {a = a} {b = b} u v) i d p f h =
        nothing_given v (and_second (is_inert funs counts a s) (is_inert funs counts b r) i) _ p f
        (empty_put x s _ T d (free_names b) (nothing_given u (and_first (is_inert funs counts a s) (is_inert funs counts b r) i) d p f (empty_left (free_names a) (without x (free_names b)) T d h))
        (empty_right (free_names a) (without x (free_names b)) T d h))
    nothing_given (let_par_typed {T = T} {x = x} {y = y} {z = z} {a = a} w e u) i d p f h =
        let hz : d z ≡ par_both (emp (par_left (T z))) (emp (par_right (T z))) = h.at z (holds-head z _) ∙ ap emp e in
        nothing_given u i _ p f
        (empty_put y _ (right_part (d z)) (put x (par_left (T z)) T) (put x (left_part (d z)) d) (free_names a) (ap right_part hz)
        (empty_put x _ (left_part (d z)) T d (without y (free_names a)) (ap left_part hz) (empty_tail z _ T d h)))
    nothing_given (let_cat_typed {T = T} {x = x} {y = y} {z = z} {a = a} w w' e u) i d p f h =
        let hz : d z ≡ cat_fst (emp (cat_first (T z))) = h.at z (holds-head z _) ∙ ap emp e in
        nothing_given u i _ p f
        (empty_put y _ (second_part (cat_second (T z)) (d z)) (put x (cat_first (T z)) T) (put x (first_part (d z)) d) (free_names a) (ap (second_part (cat_second (T z))) hz)
        (empty_put x _ (first_part (d z)) T d (without y (free_names a)) (ap first_part hz) (empty_tail z _ T d h)))
    nothing_given (case_sum_typed {T = T} {x = x} {y = y} {z = z} {r = r} {a = a} {b = b} e u v) i d p f h =
        let hz : d z ≡ sum_emp = h.at z (holds-head z _) ∙ ap emp e in
        ap (λ c. (sum_run r c (λ c. run_at funs k a (put x (sum_left (T z)) T) r (put x c d) p) (λ c. run_at funs k b (put y (sum_right (T z)) T) r (put y c d) p)).out) hz
    nothing_given (case_star_typed {T = T} {y = y} {ys = ys} {z = z} {r = r} {a = a} {b = b} w w' e u v) i d p f h =
        let hz : d z ≡ star_emp = h.at z (holds-head z _) ∙ ap emp e in
        ap (λ c. (star_run r c (run_at funs k a T r d p) (λ c q. run_at funs k b (put ys (star_items (T z)) (put y (star_item (T z)) T)) r (put ys q (put y c d)) p)).out) hz
    nothing_given (wait_typed {T = T} {x = x} {r = r} {a = a} w u) i d p f h =
        let hx : is_maximal (d x) ≡ false = ap is_maximal (h.at x (holds-head x _)) ∙ (is_maximal-emp (T x) ∙ w) in
        ap (λ c. (wait_run r c (run_at funs k a T r d (put x (value_of (d x)) p))).out) hx
    nothing_given (call_typed {H = H} {f = g} {ms = ms} {es = es} e u as' o) i d p f h =
        let j = and_second (counts g) (has_arity (funs g) ms es && are_inert funs counts es (leaf_types (funs g).params)) i in
        calls_empty g _ _ (and_first (counts g) (has_arity (funs g) ms es && are_inert funs counts es (leaf_types (funs g).params)) i) (values_have H ms (past_types (funs g)) p f u)
        (nothings_given as' (and_second (has_arity (funs g) ms es) (are_inert funs counts es (leaf_types (funs g).params)) j) d p f h) ∙ ap emp e

    nothings_given : {T : NameTypes} {O : Facts} {H : PastTypes} {es : CoreTerms} {ts : List StreamType} → TypedAll funs counts Apart T O H es ts → are_inert funs counts es ts ≡ true → (d : Environment) (p : Past) → HasTypes H p → EmptyOn (free_in_terms es) T d
        → Empties ts (run_all funs (call_at funs k) es ts T d p).outs
    nothings_given none_typed i d p f h = no_empties
    nothings_given (more_typed {e = e} {es = es} {t = t} {ts = ts} u as') i d p f h =
        empty_before (nothing_given u (and_first (is_inert funs counts e t) (are_inert funs counts es ts) i) d p f (empty_left (free_names e) (free_in_terms es) _ d h))
        (nothings_given as' (and_second (is_inert funs counts e t) (are_inert funs counts es ts) i) d p f (empty_right (free_names e) (free_in_terms es) _ d h))

module _ (funs : ℕ → CoreBody) (counts : ℕ → Bool) (Apart : ℕ → ℕ → Type 0) (bodies : TypedBodies funs counts Apart) (inert : (f : ℕ) → counts f ≡ true → is_inert funs counts (funs f).body (funs f).result ≡ true) where
  calls_empty_at : (k f : ℕ) (vs : List HistValue) (ps : List StreamPrefix) → counts f ≡ true → PastValues (past_types (funs f)) vs → Empties (leaf_types (funs f).params) ps → (call_at funs k f vs ps).out ≡ emp (funs f).result
  unfolding call_at
  calls_empty_at zero f vs ps i hv he = refl
  calls_empty_at (suc k) f vs ps i hv he =
      nothing_given funs counts Apart k (calls_empty_at k) (bodies.body f) (inert f i) (value_at eps_emp (leaf_names (funs f).params) ps) (value_at unit_value (past_names (funs f)) vs) (past_params_have (funs f) hv)
      (record { at = λ x m. params_empty (funs f).params he x })

  -- an inert term gives nothing where nothing has come
  pub run_at_nothing : (k : ℕ) {T : NameTypes} {O : Facts} {H : PastTypes} {e : CoreTerm} {r : StreamType} → Typed funs counts Apart T O H e r → is_inert funs counts e r ≡ true → (d : Environment) (p : Past) → HasTypes H p → EmptyOn (free_names e) T d
      → (run_at funs k e T r d p).out ≡ emp r
  run_at_nothing k h i d p f m = nothing_given funs counts Apart k (calls_empty_at k) h i d p f m

pub inert_gives_nothing : InertGivesNothing
inert_gives_nothing funs k c e r typed i types env p f h =
    let same = run_of_cut c types env p f funs (is_inert_fun funs) k e r typed.term_typed env in
    let alike = cut_alike c types env p f env (free_names e) (free_are_streams funs (is_inert_fun funs) e c r typed.term_typed) in
    ap (λ a. a.out) same
    ∙ run_at_nothing (fun_at funs) (is_inert_fun funs) Any (typed_bodies funs typed.funs_typed) (inert_bodies funs) k (derivation funs k c e r typed) i (cut c env) p f.has_values
    (record { at = λ x m. sym (alike.at x m).1 ∙ (h x m ∙ ap emp (alike.at x m).0) })

pub inert_main_gives_nothing : InertMainGivesNothing
inert_main_gives_nothing c core typed i =
    inert_gives_nothing c.funs horizon (context_of c.main) c.main.body c.main.result (main_typed c core typed) i (types_in c.main.params) (split c.main.params (emp (as_type c.main.params))) no_past
    (main_fits c.main core.main_past (emp (as_type c.main.params)) (is_prefix (emp_is_prefix (as_type c.main.params)))) (λ x m. ap (λ d. d x) (split_of_empty c.main.params))
