-- Terms that are alike but for names run alike.
use Rattle.std.proofs.Common.{◌≡◌, ◌∙◌, ℕ, List, [], ◌∷◌, ap, ap₂, refl, subst}
use Rattle.std.specs.Prelude.{Some}
use Rattle.stream_type.specs.StreamType.{StreamType, eps}
use Rattle.stream_prefix.specs.StreamPrefix.{StreamPrefix, in_left, in_right, is_maximal}
use Rattle.bunch.specs.Names.{put}
use Rattle.hist_value.specs.HistExpr.{HistExpr}
use Rattle.hist_value.specs.HistValue.{HistValue}
use Rattle.hist_value.specs.Renaming.{IsFreeFor, AgreeAlong}
use Rattle.hist_value.proofs.Renamings.{agree_under, value_of_renaming}
use Rattle.hist_value.specs.Wholes.{value_of, full}
use Rattle.core_term.specs.CoreTerm.{CoreTerm, CoreTerms, CoreBody, is_var, leaf_types}
use Rattle.core_term.specs.Environment.{Environment, NameTypes}
use Rattle.core_term.specs.Parts.{par_left, par_right, cat_first, cat_second, sum_left, sum_right, star_item, star_items, left_part, right_part, first_part, second_part, as_star}
use Rattle.core_term.specs.Run.{quiet, relabel, par_run, cat_run, let_run, sum_run, star_run, wait_run, run_before, call_run}
use Rattle.core_term.specs.Meaning.{Past, Calls, values, run_with, run_all, call_at}
use Rattle.core_term.specs.Renaming.{Scope, AreRenamings, none_renamed, more_renamed, IsRenamedTerm, var_renamed, eps_renamed, unit_renamed, nil_renamed, past_renamed, par_renamed, cat_renamed, cons_renamed, inl_renamed, inr_renamed, let_renamed, let_par_renamed, let_cat_renamed, case_sum_renamed, case_star_renamed, wait_renamed, call_renamed, IsRenamedTerms, no_terms_renamed, before_renamed}
use Rattle.core_term.specs.MeaningLaws.{RenamedRun}
use Rattle.core_term.proofs.FreeRuns.{sum_run-same, star_run-same}

-- the same stands at each name and at its number
pub record Along {A : Type 0} (scope : Scope) (p q : ℕ → A) : Type 0 where
  pub at : AgreeAlong scope p q

-- also once a bound name has got a number of its own
pub along_put : {A : Type 0} (scope : Scope) (p q : ℕ → A) (x n : ℕ) (v w : A) → Along scope p q → IsFreeFor scope x n → v ≡ w → Along (put x (Some n) scope) (put x v p) (put n w q)
along_put scope p q x n v w h free e = record { at = subst (λ u. AgreeAlong (put x (Some n) scope) (put x v p) (put n u q)) e (agree_under scope x n v p q h.at free) }

values_renamed : {past : Scope} {ms ns : List HistExpr} → AreRenamings past ms ns → (p q : Past) → Along past p q → values ms p ≡ values ns q
values_renamed none_renamed p q h = refl
values_renamed (more_renamed {past = past} {m = m} {n = n} i is) p q h = ap₂ ◌∷◌ (value_of_renaming past m n i p q h.at) (values_renamed is p q h)

-- a name becomes a name, and nothing else does
is_var-renamed : {names past : Scope} {e o : CoreTerm} → IsRenamedTerm names past e o → is_var e ≡ is_var o
is_var-renamed (var_renamed i) = refl
is_var-renamed eps_renamed = refl
is_var-renamed unit_renamed = refl
is_var-renamed nil_renamed = refl
is_var-renamed (past_renamed i) = refl
is_var-renamed (par_renamed i j) = refl
is_var-renamed (cat_renamed i j) = refl
is_var-renamed (cons_renamed i j) = refl
is_var-renamed (inl_renamed i) = refl
is_var-renamed (inr_renamed i) = refl
is_var-renamed (let_renamed i f j) = refl
is_var-renamed (let_par_renamed k f g i) = refl
is_var-renamed (let_cat_renamed k f g i) = refl
is_var-renamed (case_sum_renamed k f i g j) = refl
is_var-renamed (case_star_renamed k i f g j) = refl
is_var-renamed (wait_renamed k f i) = refl
is_var-renamed (call_renamed i j) = refl

-- with functions whose parameters have the same types and that give the same
module _ (funs other_funs : ℕ → CoreBody) (call other_call : Calls) (same_types : (f : ℕ) → leaf_types (funs f).params ≡ leaf_types (other_funs f).params)
    (same_calls : (f : ℕ) (vs : List HistValue) (ps : List StreamPrefix) → call f vs ps ≡ other_call f vs ps) where
  mutual
    pub run_renamed : {names past : Scope} {e o : CoreTerm} → IsRenamedTerm names past e o → (T U : NameTypes) (r : StreamType) (d d' : Environment) (p q : Past) → Along names T U → Along names d d' → Along past p q
        → run_with funs call e T r d p ≡ run_with other_funs other_call o U r d' q
    run_renamed (var_renamed {x = x} {n = n} i) T U r d d' p q t h k = ap quiet (h.at x n i)
    run_renamed eps_renamed T U r d d' p q t h k = refl
    run_renamed unit_renamed T U r d d' p q t h k = refl
    run_renamed nil_renamed T U r d d' p q t h k = refl
    run_renamed (past_renamed {past = past} {m = m} {n = n} i) T U r d d' p q t h k = ap (λ v. quiet (full r v)) (value_of_renaming past m n i p q k.at)
    run_renamed (par_renamed i j) T U r d d' p q t h k = ap₂ par_run (run_renamed i T U (par_left r) d d' p q t h k) (run_renamed j T U (par_right r) d d' p q t h k)
    run_renamed (cat_renamed i j) T U r d d' p q t h k = ap₂ cat_run (run_renamed i T U (cat_first r) d d' p q t h k) (run_renamed j T U (cat_second r) d d' p q t h k)
    run_renamed (cons_renamed i j) T U r d d' p q t h k = ap₂ (λ u v. relabel as_star (cat_run u v)) (run_renamed i T U (star_item r) d d' p q t h k) (run_renamed j T U (star_items r) d d' p q t h k)
    run_renamed (inl_renamed i) T U r d d' p q t h k = ap (relabel in_left) (run_renamed i T U (sum_left r) d d' p q t h k)
    run_renamed (inr_renamed i) T U r d d' p q t h k = ap (relabel in_right) (run_renamed i T U (sum_right r) d d' p q t h k)
    run_renamed (let_renamed {names = names} {x = x} {m = m} {s = s} {a = a} {b = b} {c = c} {d = o} i f j) T U r d d' p q t h k =
        let e = run_renamed i T U s d d' p q t h k in
        let v : is_var a ≡ is_var c = is_var-renamed i in
        let g = run_renamed j (put x s T) (put m s U) r (put x (run_with funs call a T s d p).out d) (put m (run_with other_funs other_call c U s d' q).out d') p q (along_put names T U x m s s t f refl) (along_put names d d' x m _ _ h f (ap (λ u. u.out) e)) k in
        ap (λ w. let_run w (run_with funs call a T s d p) (run_with funs call b (put x s T) r (put x (run_with funs call a T s d p).out d) p)) v ∙ ap₂ (let_run (is_var c)) e g
    run_renamed (let_par_renamed {names = names} {x = x} {y = y} {z = z} {l = l} {m = m} {n = n} i f g j) T U r d d' p q t h k =
        let e = t.at z l i in
        let w = h.at z l i in
        run_renamed j _ _ r _ _ p q
        (along_put (put x (Some m) names) (put x (par_left (T z)) T) (put m (par_left (U l)) U) y n _ _ (along_put names T U x m _ _ t f (ap par_left e)) g (ap par_right e))
        (along_put (put x (Some m) names) (put x (left_part (d z)) d) (put m (left_part (d' l)) d') y n _ _ (along_put names d d' x m _ _ h f (ap left_part w)) g (ap right_part w)) k
    run_renamed (let_cat_renamed {names = names} {x = x} {y = y} {z = z} {l = l} {m = m} {n = n} i f g j) T U r d d' p q t h k =
        let e = t.at z l i in
        let w = h.at z l i in
        run_renamed j _ _ r _ _ p q
        (along_put (put x (Some m) names) (put x (cat_first (T z)) T) (put m (cat_first (U l)) U) y n _ _ (along_put names T U x m _ _ t f (ap cat_first e)) g (ap cat_second e))
        (along_put (put x (Some m) names) (put x (first_part (d z)) d) (put m (first_part (d' l)) d') y n _ _ (along_put names d d' x m _ _ h f (ap first_part w)) g (ap₂ (λ u v. second_part (cat_second u) v) e w)) k
    run_renamed (case_sum_renamed {names = names} {x = x} {y = y} {z = z} {l = l} {m = m} {n = n} {a = a} {b = b} i f j g j') T U r d d' p q t h k =
        let e = t.at z l i in
        ap (λ c. sum_run r c (λ c. run_with funs call a (put x (sum_left (T z)) T) r (put x c d) p) (λ c. run_with funs call b (put y (sum_right (T z)) T) r (put y c d) p)) (h.at z l i)
        ∙ sum_run-same r (d' l) _ _ _ _
        (λ c. run_renamed j _ _ r _ _ p q (along_put names T U x m _ _ t f (ap sum_left e)) (along_put names d d' x m c c h f refl) k)
        (λ c. run_renamed j' _ _ r _ _ p q (along_put names T U y n _ _ t g (ap sum_right e)) (along_put names d d' y n c c h g refl) k)
    run_renamed (case_star_renamed {names = names} {y = y} {ys = ys} {z = z} {l = l} {m = m} {n = n} {a = a} {b = b} i j f g j') T U r d d' p q t h k =
        let e = t.at z l i in
        ap (λ c. star_run r c (run_with funs call a T r d p) (λ c u. run_with funs call b (put ys (star_items (T z)) (put y (star_item (T z)) T)) r (put ys u (put y c d)) p)) (h.at z l i)
        ∙ star_run-same r (d' l) _ _ _ _ (run_renamed j T U r d d' p q t h k)
        (λ c u. run_renamed j' _ _ r _ _ p q
        (along_put (put y (Some m) names) (put y (star_item (T z)) T) (put m (star_item (U l)) U) ys n _ _ (along_put names T U y m _ _ t f (ap star_item e)) g (ap star_items e))
        (along_put (put y (Some m) names) (put y c d) (put m c d') ys n u u (along_put names d d' y m c c h f refl) g refl) k)
    run_renamed (wait_renamed {past = past} {x = x} {n = n} {a = a} i f j) T U r d d' p q t h k =
        ap (λ c. wait_run r (is_maximal c) (run_with funs call a T r d (put x (value_of c) p))) (h.at x n i)
        ∙ ap (wait_run r (is_maximal (d' n))) (run_renamed j T U r d d' _ _ t h (along_put past p q x n (value_of (d' n)) (value_of (d' n)) k f refl))
    run_renamed (call_renamed {f = f} {ns = ns} {os = os} is js) T U r d d' p q t h k =
        ap₂ (λ u v. call_run u (call f v u.outs))
        (runs_renamed js (leaf_types (funs f).params) T U d d' p q t h k ∙ ap (λ ts. run_all other_funs other_call os ts U d' q) (same_types f)) (values_renamed is p q k)
        ∙ ap (call_run (run_all other_funs other_call os (leaf_types (other_funs f).params) U d' q)) (same_calls f (values ns q) (run_all other_funs other_call os (leaf_types (other_funs f).params) U d' q).outs)

    pub runs_renamed : {names past : Scope} {es os : CoreTerms} → IsRenamedTerms names past es os → (ts : List StreamType) (T U : NameTypes) (d d' : Environment) (p q : Past) → Along names T U → Along names d d' → Along past p q
        → run_all funs call es ts T d p ≡ run_all other_funs other_call os ts U d' q
    runs_renamed no_terms_renamed ts T U d d' p q t h k = refl
    runs_renamed (before_renamed {a = a} {c = c} {es = es} i is) [] T U d d' p q t h k =
        let v : is_var a ≡ is_var c = is_var-renamed i in
        ap (λ w. run_before w (run_with funs call a T eps d p) (run_all funs call es [] T d p)) v
        ∙ ap₂ (run_before (is_var c)) (run_renamed i T U eps d d' p q t h k) (runs_renamed is [] T U d d' p q t h k)
    runs_renamed (before_renamed {a = a} {c = c} {es = es} i is) (s ∷ ts) T U d d' p q t h k =
        let v : is_var a ≡ is_var c = is_var-renamed i in
        ap (λ w. run_before w (run_with funs call a T s d p) (run_all funs call es ts T d p)) v
        ∙ ap₂ (run_before (is_var c)) (run_renamed i T U s d d' p q t h k) (runs_renamed is ts T U d d' p q t h k)

pub renamed_run : RenamedRun
renamed_run funs k names pasts e o h T U r d d' p q t i j =
    run_renamed funs funs (call_at funs k) (call_at funs k) (λ f. refl) (λ f vs ps. refl) h T U r d d' p q (record { at = t }) (record { at = i }) (record { at = j })
