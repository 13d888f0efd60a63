-- A typed term's run is of its type, grows with the input, and makes no fewer calls then.
use Rattle.std.proofs.Common.{◌≡◌, ℕ, zero, suc, Bool, true, false, List, eqb, if◌then◌else◌, subst, sym, arith}
use Rattle.std.specs.Prelude.{Some}
use Rattle.stream_type.specs.StreamType.{StreamType}
use Rattle.stream_prefix.specs.StreamPrefix.{StreamPrefix, eps_emp, IsPart}
use Rattle.stream_prefix.proofs.Derivations.{Derives, derives, is_prefix, eps_has_emp, one_has_full, star_has_done}
use Rattle.stream_prefix.proofs.Joins.{emp_is_prefix}
use Rattle.stream_prefix.proofs.Parts.{part_refl}
use Rattle.bunch.specs.Names.{put, value_at}
use Rattle.bunch.specs.BunchTree.{leaf_names, stands_before}
use Rattle.bunch.specs.Facts.{Facts}
use Rattle.hist_value.specs.HistType.{HistType, past}
use Rattle.hist_value.specs.HistValue.{HistValue, HasType, unit_value}
use Rattle.hist_value.specs.Evaluate.{value}
use Rattle.hist_value.specs.Wholes.{value_of, full}
use Rattle.hist_value.specs.Laws.{HasTypes}
use Rattle.hist_value.proofs.TypedValues.{value_has_type}
use Rattle.hist_value.proofs.WholeLaws.{value_has_past, full_is_prefix}
use Rattle.core_term.specs.CoreTerm.{CoreTerm, CoreTerms, CoreBody, call_term, is_var, leaf_types, past_names, past_types}
use Rattle.core_term.specs.Environment.{Environment, NameTypes}
use Rattle.core_term.specs.Agreement.{types_in}
use Rattle.core_term.specs.Parts.{par_left, par_right, cat_first, cat_second, sum_left, sum_right, star_item, star_items}
use Rattle.core_term.specs.Meaning.{Past, Calls, values, run_with, run_all, call_at, run_at}
use Rattle.core_term.specs.Typing.{past_params}
use Rattle.core_term.proofs.TypedTerms.{PastTypes, Typed, TypedAll, var_typed, eps_typed, unit_typed, nil_typed, past_typed, par_typed, cat_typed, cons_typed, inl_typed, inr_typed, let_typed, let_par_typed, let_cat_typed, case_sum_typed, case_star_typed, wait_typed, call_typed, none_typed, more_typed}
use Rattle.core_term.proofs.Parameters.{Prefixes, Longer, none_longer, PastValues, prefixes_of_longer, params_derive, params_grow, values_have, past_params_have}
use Rattle.core_term.proofs.GrowingRuns.{Grows, GrowAll, Streams, Continues, quiet_grows, quiet_same, par_grows, cat_grows, cons_grows, inl_grows, inr_grows, let_grows, sum_grows, star_grows, wait_grows, before_grows, call_grows, par_parts, cat_parts, par_parts_grow, cat_parts_grow, streams_put, streams_put_two, continues_put, continues_put_two, continued_streams, continues_same}

-- historical names keep values of their types once one is bound
pub pasts_put : (x : ℕ) (h : HistType) (v : HistValue) (H : PastTypes) (p : Past) → HasType h v → HasTypes H p → HasTypes (put x (Some h) H) (put x v p)
pasts_put x h v H p k f y t e = go (eqb y x) e
  where
    go : (c : Bool) → (if c then Some h else H y) ≡ Some t → HasType t (if c then v else p y)
    go true e = let same : h ≡ t = cc e in subst (λ u. HasType u v) same k
    go false e = f y t e

module _ (funs : ℕ → CoreBody) (counts : ℕ → Bool) (Apart : ℕ → ℕ → Type 0) (call : Calls)
    (calls_grow : (f : ℕ) (vs : List HistValue) (ps qs : List StreamPrefix) → PastValues (past_types (funs f)) vs → Longer (leaf_types (funs f).params) ps qs → Grows (funs f).result (call f vs ps) (call f vs qs)) where
  mutual
    pub run_grows : {T : NameTypes} {O : Facts} {H : PastTypes} {e : CoreTerm} {r : StreamType} → Typed funs counts Apart T O H e r → (d d' : Environment) (p : Past) → Streams T d → Continues T d d' → HasTypes H p
        → Grows r (run_with funs call e T r d p) (run_with funs call e T r d' p)
    run_grows (var_typed {x = x} e) d d' p h g f = quiet_grows (subst (λ t. Derives t (d x)) e (h.at x)) (subst (λ t. IsPart t (d x) (d' x)) e (g.at x))
    run_grows eps_typed d d' p h g f = quiet_same eps_has_emp
    run_grows unit_typed d d' p h g f = quiet_same one_has_full
    run_grows (nil_typed {s = s}) d d' p h g f = quiet_same (star_has_done {s = s})
    run_grows (past_typed {H = H} {m = m} {r = r} k) d d' p h g f = quiet_same (derives r (full r (value m p)) (full_is_prefix r (value m p) (value_has_type H p f m (Some (past r)) (past r) k)))
    run_grows (par_typed a b) d d' p h g f = par_grows (run_grows a d d' p h g f) (run_grows b d d' p h g f)
    run_grows (cat_typed a b o) d d' p h g f = cat_grows (run_grows a d d' p h g f) (run_grows b d d' p h g f)
    run_grows (cons_typed a b o) d d' p h g f = cons_grows (cat_grows (run_grows a d d' p h g f) (run_grows b d d' p h g f))
    run_grows (inl_typed a) d d' p h g f = inl_grows (run_grows a d d' p h g f)
    run_grows (inr_typed a) d d' p h g f = inr_grows (run_grows a d d' p h g f)
    run_grows (let_typed {T = T} {x = x} {s = s} {a = ta} a b) d d' p h g f =
        let i = run_grows a d d' p h g f in
        let_grows (is_var ta) i (run_grows b _ _ p (streams_put x s _ T d i.first h) (continues_put x s _ _ T d d' i.part g) f)
    run_grows (let_par_typed {T = T} {x = x} {y = y} {z = z} n e a) d d' p h g f =
        let hz = subst (λ t. Derives t (d z)) e (h.at z) in
        let i = par_parts hz in
        let k = par_parts_grow hz (subst (λ t. IsPart t (d z) (d' z)) e (g.at z)) in
        run_grows a _ _ p (streams_put_two x y (par_left (T z)) (par_right (T z)) _ _ T d i.0 i.1 h) (continues_put_two x y (par_left (T z)) (par_right (T z)) _ _ _ _ T d d' k.0 k.1 g) f
    run_grows (let_cat_typed {T = T} {x = x} {y = y} {z = z} n n' e a) d d' p h g f =
        let hz = subst (λ t. Derives t (d z)) e (h.at z) in
        let i = cat_parts hz in
        let k = cat_parts_grow hz (subst (λ t. IsPart t (d z) (d' z)) e (g.at z)) in
        run_grows a _ _ p (streams_put_two x y (cat_first (T z)) (cat_second (T z)) _ _ T d i.0 i.1 h) (continues_put_two x y (cat_first (T z)) (cat_second (T z)) _ _ _ _ T d d' k.0 k.1 g) f
    run_grows (case_sum_typed {T = T} {x = x} {y = y} {z = z} e a b) d d' p h g f =
        sum_grows (λ u v i k. run_grows a (put x u d) (put x v d') p (streams_put x (sum_left (T z)) u T d i h) (continues_put x (sum_left (T z)) u v T d d' k g) f)
        (λ u v i k. run_grows b (put y u d) (put y v d') p (streams_put y (sum_right (T z)) u T d i h) (continues_put y (sum_right (T z)) u v T d d' k g) f)
        (subst (λ t. Derives t (d z)) e (h.at z)) (subst (λ t. IsPart t (d z) (d' z)) e (g.at z))
    run_grows (case_star_typed {T = T} {y = y} {ys = ys} {z = z} n n' e a b) d d' p h g f =
        star_grows (run_grows a d d' p h g f)
        (λ u u' v v' i j k l. run_grows b (put ys v (put y u d)) (put ys v' (put y u' d')) p
        (streams_put_two y ys (star_item (T z)) (star_items (T z)) u v T d i (subst (λ t. Derives (star_items t) v) (sym e) j) h)
        (continues_put_two y ys (star_item (T z)) (star_items (T z)) u u' v v' T d d' k (subst (λ t. IsPart (star_items t) v v') (sym e) l) g) f)
        (subst (λ t. Derives t (d z)) e (h.at z)) (subst (λ t. IsPart t (d z) (d' z)) e (g.at z))
    run_grows (wait_typed {T = T} {H = H} {x = x} {r = r} {a = ta} n a) d d' p h g f =
        let h' = continued_streams T d d' h g in
        wait_grows (λ q. run_with funs call ta T r d (put x (value_of q) p)) (λ q. run_with funs call ta T r d' (put x (value_of q) p)) (h.at x) (g.at x)
        (λ m. run_grows a d d' (put x (value_of (d x)) p) h g (pasts_put x (past (T x)) (value_of (d x)) H p (value_has_past (T x) (d x) (is_prefix (h.at x)) m) f))
        (λ m. (run_grows a d' d' (put x (value_of (d' x)) p) h' (continues_same T d' h') (pasts_put x (past (T x)) (value_of (d' x)) H p (value_has_past (T x) (d' x) (is_prefix (h'.at x)) m) f)).first)
    run_grows (call_typed {T = T} {H = H} {f = i} {ms = ms} {es = es} e k as' o) d d' p h g f =
        let xs = runs_grow as' d d' p h g f in
        subst (λ t. Grows t (run_with funs call (call_term i ms es) T t d p) (run_with funs call (call_term i ms es) T t d' p)) e
        (call_grows xs (calls_grow i (values ms p) _ _ (values_have H ms (past_types (funs i)) p f k) xs.outs))

    pub runs_grow : {T : NameTypes} {O : Facts} {H : PastTypes} {es : CoreTerms} {ts : List StreamType} → TypedAll funs counts Apart T O H es ts → (d d' : Environment) (p : Past) → Streams T d → Continues T d d' → HasTypes H p
        → GrowAll ts (run_all funs call es ts T d p) (run_all funs call es ts T d' p)
    runs_grow none_typed d d' p h g f = record { outs = none_longer; calls = omega arith }
    runs_grow (more_typed {e = e} a as') d d' p h g f = before_grows (is_var e) (run_grows a d d' p h g f) (runs_grow as' d d' p h g f)

-- every function's body is typed
pub record TypedBodies (funs : ℕ → CoreBody) (counts : ℕ → Bool) (Apart : ℕ → ℕ → Type 0) : Type 0 where
  pub body : (f : ℕ) → Typed funs counts Apart (types_in (funs f).params) (stands_before (funs f).params) (past_params (funs f).past) (funs f).body (funs f).result

module _ (funs : ℕ → CoreBody) (counts : ℕ → Bool) (Apart : ℕ → ℕ → Type 0) (bodies : TypedBodies funs counts Apart) where
  -- so do calls, at each depth
  pub calls_grow_at : (k f : ℕ) (vs : List HistValue) (ps qs : List StreamPrefix) → PastValues (past_types (funs f)) vs → Longer (leaf_types (funs f).params) ps qs → Grows (funs f).result (call_at funs k f vs ps) (call_at funs k f vs qs)
  unfolding call_at
  calls_grow_at zero f vs ps qs hv hp = record { first = emp_is_prefix (funs f).result; next = emp_is_prefix (funs f).result; part = part_refl (emp_is_prefix (funs f).result); calls = omega arith }
  calls_grow_at (suc k) f vs ps qs hv hp =
      let b = (funs f).params in
      let x = run_grows funs counts Apart (call_at funs k) (calls_grow_at k) (bodies.body f) (value_at eps_emp (leaf_names b) ps) (value_at eps_emp (leaf_names b) qs) (value_at unit_value (past_names (funs f)) vs)
      (record { at = params_derive b (prefixes_of_longer hp) }) (record { at = params_grow b hp }) (past_params_have (funs f) hv) in
      record { first = x.first; next = x.next; part = x.part; calls = omega (arith, x.calls) }

  pub run_at_grows : (k : ℕ) {T : NameTypes} {O : Facts} {H : PastTypes} {e : CoreTerm} {r : StreamType} → Typed funs counts Apart T O H e r → (d d' : Environment) (p : Past) → Streams T d → Continues T d d' → HasTypes H p
      → Grows r (run_at funs k e T r d p) (run_at funs k e T r d' p)
  run_at_grows k h d d' p s g f = run_grows funs counts Apart (call_at funs k) (calls_grow_at k) h d d' p s g f

  pub run_at_derives : (k : ℕ) {T : NameTypes} {O : Facts} {H : PastTypes} {e : CoreTerm} {r : StreamType} → Typed funs counts Apart T O H e r → (d : Environment) (p : Past) → Streams T d → HasTypes H p
      → Derives r (run_at funs k e T r d p).out
  run_at_derives k {T = T} h d p s f = (run_at_grows k h d d p s (continues_same T d s) f).first

  pub runs_at_derive : (k : ℕ) {T : NameTypes} {O : Facts} {H : PastTypes} {es : CoreTerms} {ts : List StreamType} → TypedAll funs counts Apart T O H es ts → (d : Environment) (p : Past) → Streams T d → HasTypes H p
      → Prefixes ts (run_all funs (call_at funs k) es ts T d p).outs
  runs_at_derive k {T = T} h d p s f = prefixes_of_longer (runs_grow funs counts Apart (call_at funs k) (calls_grow_at k) h d d p s (continues_same T d s) f).outs
