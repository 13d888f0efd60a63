-- On whole streams a typed term gives a whole one, if its calls stay within its depth.
use Rattle.std.proofs.Common.{◌≡◌, ◌∙◌, ◌≤◌, ℕ, zero, suc, Bool, true, false, true≢false, List, [], ◌∷◌, ◌++◌, ◌&&◌, if◌then◌else◌, ap, ap₂, refl, subst, sym, arith}
use Rattle.std.specs.Prelude.{Some, IsTrue}
use Rattle.stream_type.specs.StreamType.{StreamType, sum, star}
use Rattle.stream_prefix.specs.StreamPrefix.{StreamPrefix, eps_emp, is_maximal}
use Rattle.stream_prefix.proofs.Derivations.{Derives, is_prefix, sum_has_emp, sum_has_left, sum_has_right, star_has_emp, star_has_done, star_has_first, star_has_rest}
use Rattle.bunch.specs.Names.{put, value_at}
use Rattle.bunch.specs.BunchTree.{leaf_names}
use Rattle.bunch.specs.Facts.{Facts}
use Rattle.bunch.proofs.Tests.{and_second}
use Rattle.hist_value.specs.HistType.{past}
use Rattle.hist_value.specs.HistValue.{HistValue, unit_value}
use Rattle.hist_value.specs.Evaluate.{value}
use Rattle.hist_value.specs.Wholes.{value_of}
use Rattle.hist_value.specs.Laws.{HasTypes}
use Rattle.hist_value.proofs.TypedValues.{value_has_type}
use Rattle.hist_value.proofs.WholeLaws.{value_has_past, full_is_maximal}
use Rattle.core_term.specs.CoreTerm.{CoreTerm, CoreTerms, CoreBody, leaf_types, past_names, past_types, fun_at}
use Rattle.core_term.specs.FreeNames.{without, free_names, free_in_terms}
use Rattle.core_term.specs.Environment.{Environment, NameTypes, IsWholeOn}
use Rattle.core_term.specs.Agreement.{types_in}
use Rattle.core_term.specs.Split.{split}
use Rattle.core_term.specs.Inert.{is_inert_fun}
use Rattle.core_term.specs.Parts.{par_left, par_right, cat_first, cat_second, sum_left, sum_right, star_item, star_items}
use Rattle.core_term.specs.Run.{Run, cat_run_at, cat_run, sum_run, star_run, wait_run}
use Rattle.core_term.specs.Meaning.{Past, run_all, call_at, run_at, no_past, horizon}
use Rattle.core_term.specs.Typing.{context_of}
use Rattle.core_term.specs.MeaningLaws.{RunIsWhole, MeanIsWhole}
use Rattle.core_term.proofs.Sides.{holds-head, holds-left, holds-right}
use Rattle.core_term.proofs.Without.{holds-tail, put_on}
use Rattle.core_term.proofs.TypedTerms.{PastTypes, Typed, TypedAll, var_typed, eps_typed, unit_typed, nil_typed, past_typed, par_typed, cat_typed, cons_typed, inl_typed, inr_typed, let_typed, let_par_typed, let_cat_typed, case_sum_typed, case_star_typed, wait_typed, call_typed, none_typed, more_typed}
use Rattle.core_term.proofs.Parameters.{Prefixes, PastValues, Wholes, no_wholes, whole_before, params_derive, whole_at_names, values_have, past_params_have}
use Rattle.core_term.proofs.GrowingRuns.{Streams, par_parts, cat_parts, par_parts_whole, cat_parts_whole, is_maximal-as_star, streams_put, streams_put_two}
use Rattle.core_term.proofs.Monotone.{TypedBodies, pasts_put, run_at_derives, runs_at_derive}
use Rattle.core_term.proofs.TypedRuns.{Any, typed_bodies, derivation, cut, cut_streams, run_of_cut, free_are_streams, main_fits, main_typed}
use Rattle.core_term.proofs.Splits.{split_of_whole}

-- all of these names are whole
pub record WholeOn (xs : List ℕ) (d : Environment) : Type 0 where
  pub at : IsWholeOn xs d

-- so are those of each part of the list
pub whole_left : (xs ys : List ℕ) (d : Environment) → WholeOn (xs ++ ys) d → WholeOn xs d
whole_left xs ys d h = record { at = λ x m. h.at x (holds-left x xs ys m) }

pub whole_right : (xs ys : List ℕ) (d : Environment) → WholeOn (xs ++ ys) d → WholeOn ys d
whole_right xs ys d h = record { at = λ x m. h.at x (holds-right x xs ys m) }

pub whole_tail : (z : ℕ) (xs : List ℕ) (d : Environment) → WholeOn (z ∷ xs) d → WholeOn xs d
whole_tail z xs d h = record { at = λ x m. h.at x (holds-tail x z xs m) }

pub whole_put : (x : ℕ) (p : StreamPrefix) (d : Environment) (xs : List ℕ) → IsTrue (is_maximal p) → WholeOn (without x xs) d → WholeOn xs (put x p d)
whole_put x p d xs m h = record { at = put_on {A = StreamPrefix} {B = StreamPrefix} (λ q w. IsTrue (is_maximal q)) x p p d d xs m h.at }

-- the calls of the first part
pub cat_calls_first : (a b : Run) (n : ℕ) → (cat_run a b).calls ≤ n → a.calls ≤ n
cat_calls_first a b n le = go (is_maximal a.out) le
  where
    go : (c : Bool) → (cat_run_at c a b).calls ≤ n → a.calls ≤ n
    go true le = omega arith
    go false le = le

pub cat_whole : (a b : Run) (n : ℕ) → IsTrue (is_maximal a.out) → (cat_run a b).calls ≤ n → (b.calls ≤ n → IsTrue (is_maximal b.out)) → IsTrue (is_maximal (cat_run a b).out)
cat_whole a b n m le f = go (is_maximal a.out) m le
  where
    go : (c : Bool) → c ≡ true → (cat_run_at c a b).calls ≤ n → is_maximal (cat_run_at c a b).out ≡ true
    go true e le = ap₂ ◌&&◌ m (f (omega arith))
    go false e le = absurd (true≢false (sym e))

pub wait_whole : (r : StreamType) (c : Bool) (a : Run) (n : ℕ) → c ≡ true → (wait_run r c a).calls ≤ n → (a.calls ≤ n → IsTrue (is_maximal a.out)) → IsTrue (is_maximal (wait_run r c a).out)
wait_whole r true a n e le f = f le
wait_whole r false a n e le f = absurd (true≢false (sym e))

pub sum_whole : {s t : StreamType} {p : StreamPrefix} (r : StreamType) (a b : StreamPrefix → Run) (n : ℕ) → Derives (sum s t) p → IsTrue (is_maximal p) → (sum_run r p a b).calls ≤ n
    → ((u : StreamPrefix) → Derives s u → IsTrue (is_maximal u) → (a u).calls ≤ n → IsTrue (is_maximal (a u).out)) → ((u : StreamPrefix) → Derives t u → IsTrue (is_maximal u) → (b u).calls ≤ n → IsTrue (is_maximal (b u).out))
    → IsTrue (is_maximal (sum_run r p a b).out)
sum_whole r a b n sum_has_emp m le f g = absurd (true≢false (sym m))
sum_whole r a b n (sum_has_left {p = u} h) m le f g = f u h m le
sum_whole r a b n (sum_has_right {p = u} h) m le f g = g u h m le

pub star_whole : {s : StreamType} {p : StreamPrefix} (r : StreamType) (a : Run) (b : StreamPrefix → StreamPrefix → Run) (n : ℕ) → Derives (star s) p → IsTrue (is_maximal p) → (star_run r p a b).calls ≤ n
    → (a.calls ≤ n → IsTrue (is_maximal a.out)) → ((u v : StreamPrefix) → Derives s u → Derives (star s) v → IsTrue (is_maximal u) → IsTrue (is_maximal v) → (b u v).calls ≤ n → IsTrue (is_maximal (b u v).out))
    → IsTrue (is_maximal (star_run r p a b).out)
star_whole r a b n star_has_emp m le f g = absurd (true≢false (sym m))
star_whole r a b n star_has_done m le f g = f le
star_whole r a b n (star_has_first h) m le f g = absurd (true≢false (sym m))
star_whole r a b n (star_has_rest {p = p} {q = q} h i k) m le f g = g p q h k i (and_second (is_maximal p) (is_maximal q) m) le

module _ (funs : ℕ → CoreBody) (counts : ℕ → Bool) (Apart : ℕ → ℕ → Type 0) (bodies : TypedBodies funs counts Apart) (k n : ℕ)
    (calls_whole : (f : ℕ) (vs : List HistValue) (ps : List StreamPrefix) → PastValues (past_types (funs f)) vs → Prefixes (leaf_types (funs f).params) ps → Wholes ps → (call_at funs k f vs ps).calls ≤ n → IsTrue (is_maximal (call_at funs k f vs ps).out)) where
  mutual
    whole : {T : NameTypes} {O : Facts} {H : PastTypes} {e : CoreTerm} {r : StreamType} → Typed funs counts Apart T O H e r → (d : Environment) (p : Past) → Streams T d → HasTypes H p → WholeOn (free_names e) d
        → (run_at funs k e T r d p).calls ≤ n → IsTrue (is_maximal (run_at funs k e T r d p).out)
    whole (var_typed {x = x} e) d p s f h le = h.at x (holds-head x [])
    whole eps_typed d p s f h le = refl
    whole unit_typed d p s f h le = refl
    whole nil_typed d p s f h le = refl
    whole (past_typed {H = H} {m = m} {r = r} i) d p s f h le = full_is_maximal r (value m p) (value_has_type H p f m (Some (past r)) (past r) i)
    whole (par_typed {a = a} {b = b} i j) d p s f h le =
        ap₂ ◌&&◌ (whole i d p s f (whole_left (free_names a) (free_names b) d h) (omega arith)) (whole j d p s f (whole_right (free_names a) (free_names b) d h) (omega arith))
    whole (cat_typed {T = T} {a = a} {b = b} {s = u} {t = v} i j o) d p s f h le =
        cat_whole (run_at funs k a T u d p) (run_at funs k b T v d p) n
        (whole i d p s f (whole_left (free_names a) (free_names b) d h) (cat_calls_first (run_at funs k a T u d p) (run_at funs k b T v d p) n le)) le
        (whole j d p s f (whole_right (free_names a) (free_names b) d h))
    whole (cons_typed {T = T} {a = a} {b = b} {s = u} i j o) d p s f h le =
        is_maximal-as_star (run_at_derives funs counts Apart bodies k (cat_typed i j o) d p s f)
        ∙ cat_whole (run_at funs k a T u d p) (run_at funs k b T (star u) d p) n
        (whole i d p s f (whole_left (free_names a) (free_names b) d h) (cat_calls_first (run_at funs k a T u d p) (run_at funs k b T (star u) d p) n le)) le
        (whole j d p s f (whole_right (free_names a) (free_names b) d h))
    whole (inl_typed i) d p s f h le = whole i d p s f h le
    whole (inr_typed i) d p s f h le = whole i d p s f h le
    whole (let_typed {T = T} {x = x} {s = u} {a = a} {b = b} i j) d p s f h le =
        let m = whole i d p s f (whole_left (free_names a) (without x (free_names b)) d h) (omega arith) in
        whole j _ p (streams_put x u _ T d (run_at_derives funs counts Apart bodies k i d p s f) s) f (whole_put x _ d (free_names b) m (whole_right (free_names a) (without x (free_names b)) d h)) (omega arith)
    whole (let_par_typed {T = T} {x = x} {y = y} {z = z} {a = a} w e i) d p s f h le =
        let hz = subst (λ t. Derives t (d z)) e (s.at z) in
        let j = par_parts hz in
        let m = par_parts_whole hz (h.at z (holds-head z (without x (without y (free_names a))))) in
        whole i _ p (streams_put_two x y (par_left (T z)) (par_right (T z)) _ _ T d j.0 j.1 s) f
        (whole_put y _ _ (free_names a) m.1 (whole_put x _ d (without y (free_names a)) m.0 (whole_tail z _ d h))) le
    whole (let_cat_typed {T = T} {x = x} {y = y} {z = z} {a = a} w w' e i) d p s f h le =
        let hz = subst (λ t. Derives t (d z)) e (s.at z) in
        let j = cat_parts hz in
        let m = cat_parts_whole hz (h.at z (holds-head z (without x (without y (free_names a))))) in
        whole i _ p (streams_put_two x y (cat_first (T z)) (cat_second (T z)) _ _ T d j.0 j.1 s) f
        (whole_put y _ _ (free_names a) m.1 (whole_put x _ d (without y (free_names a)) m.0 (whole_tail z _ d h))) le
    whole (case_sum_typed {T = T} {x = x} {y = y} {z = z} {r = r} {a = a} {b = b} e i j) d p s f h le =
        let ht = whole_tail z (without x (free_names a) ++ without y (free_names b)) d h in
        sum_whole r _ _ n (subst (λ t. Derives t (d z)) e (s.at z)) (h.at z (holds-head z _)) le
        (λ u hu mu l. whole i (put x u d) p (streams_put x (sum_left (T z)) u T d hu s) f (whole_put x u d (free_names a) mu (whole_left (without x (free_names a)) (without y (free_names b)) d ht)) l)
        (λ u hu mu l. whole j (put y u d) p (streams_put y (sum_right (T z)) u T d hu s) f (whole_put y u d (free_names b) mu (whole_right (without x (free_names a)) (without y (free_names b)) d ht)) l)
    whole (case_star_typed {T = T} {y = y} {ys = ys} {z = z} {r = r} {a = a} {b = b} w w' e i j) d p s f h le =
        let ht = whole_tail z (free_names a ++ without y (without ys (free_names b))) d h in
        star_whole r _ _ n (subst (λ t. Derives t (d z)) e (s.at z)) (h.at z (holds-head z _)) le
        (λ l. whole i d p s f (whole_left (free_names a) (without y (without ys (free_names b))) d ht) l)
        (λ u v hu hv mu mv l. whole j _ p (streams_put_two y ys (star_item (T z)) (star_items (T z)) u v T d hu (subst (λ t. Derives (star_items t) v) (sym e) hv) s) f
        (whole_put ys v _ (free_names b) mv (whole_put y u d (without ys (free_names b)) mu (whole_right (free_names a) (without y (without ys (free_names b))) d ht))) l)
    whole (wait_typed {T = T} {H = H} {x = x} {r = r} {a = a} w i) d p s f h le =
        let m = h.at x (holds-head x (free_names a)) in
        wait_whole r (is_maximal (d x)) _ n m le (λ l. whole i d (put x (value_of (d x)) p) s (pasts_put x (past (T x)) (value_of (d x)) H p (value_has_past (T x) (d x) (is_prefix (s.at x)) m) f) (whole_tail x (free_names a) d h) l)
    whole (call_typed {H = H} {f = g} {ms = ms} e i as' o) d p s f h le =
        calls_whole g _ _ (values_have H ms (past_types (funs g)) p f i) (runs_at_derive funs counts Apart bodies k as' d p s f) (wholes as' d p s f h (omega arith)) (omega arith)

    wholes : {T : NameTypes} {O : Facts} {H : PastTypes} {es : CoreTerms} {ts : List StreamType} → TypedAll funs counts Apart T O H es ts → (d : Environment) (p : Past) → Streams T d → HasTypes H p → WholeOn (free_in_terms es) d
        → (run_all funs (call_at funs k) es ts T d p).calls ≤ n → Wholes (run_all funs (call_at funs k) es ts T d p).outs
    wholes none_typed d p s f h le = no_wholes
    wholes (more_typed {e = e} {es = es} i as') d p s f h le =
        whole_before (whole i d p s f (whole_left (free_names e) (free_in_terms es) d h) (omega arith)) (wholes as' d p s f (whole_right (free_names e) (free_in_terms es) d h) (omega arith))

module _ (funs : ℕ → CoreBody) (counts : ℕ → Bool) (Apart : ℕ → ℕ → Type 0) (bodies : TypedBodies funs counts Apart) where
  calls_whole_at : (k f : ℕ) (vs : List HistValue) (ps : List StreamPrefix) → PastValues (past_types (funs f)) vs → Prefixes (leaf_types (funs f).params) ps → Wholes ps → (call_at funs k f vs ps).calls ≤ k → IsTrue (is_maximal (call_at funs k f vs ps).out)
  unfolding call_at
  calls_whole_at zero f vs ps hv hp hm le = absurd (omega arith)
  calls_whole_at (suc k) f vs ps hv hp hm le =
      let b = (funs f).params in
      whole funs counts Apart bodies k k (calls_whole_at k) (bodies.body f) (value_at eps_emp (leaf_names b) ps) (value_at unit_value (past_names (funs f)) vs)
      (record { at = params_derive b hp }) (past_params_have (funs f) hv) (record { at = λ x m. whole_at_names x (leaf_names b) hm }) (omega arith)

  -- a typed term gives a whole stream where its free names are whole and its calls stay within its depth
  pub run_at_whole : (k : ℕ) {T : NameTypes} {O : Facts} {H : PastTypes} {e : CoreTerm} {r : StreamType} → Typed funs counts Apart T O H e r → (d : Environment) (p : Past) → Streams T d → HasTypes H p → WholeOn (free_names e) d
      → (run_at funs k e T r d p).calls ≤ k → IsTrue (is_maximal (run_at funs k e T r d p).out)
  run_at_whole k h d p s f m le = whole funs counts Apart bodies k k (calls_whole_at k) h d p s f m le

pub run_is_whole : RunIsWhole
run_is_whole funs k c e r typed types env p f w le =
    let same = run_of_cut c types env p f funs (is_inert_fun funs) k e r typed.term_typed env in
    let streams = free_are_streams funs (is_inert_fun funs) e c r typed.term_typed in
    subst (λ a. IsTrue (is_maximal a.out)) (sym same)
    (run_at_whole (fun_at funs) (is_inert_fun funs) Any (typed_bodies funs typed.funs_typed) k (derivation funs k c e r typed) (cut c env) p (cut_streams c types env p f) f.has_values
    (record { at = λ x m. ap (λ b. is_maximal (if b then env x else eps_emp)) (streams.at x m) ∙ w x m }) (subst (λ a. a.calls ≤ k) same le))

pub mean_is_whole : MeanIsWhole
mean_is_whole c core typed p h m le =
    run_is_whole c.funs horizon (context_of c.main) c.main.body c.main.result (main_typed c core typed) (types_in c.main.params) (split c.main.params p) no_past (main_fits c.main core.main_past p h)
    (λ x i. split_of_whole c.main.params p h m x) le
