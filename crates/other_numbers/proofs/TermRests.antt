-- What is left of terms on other numbers, where calls leave the same with those numbers: what was left, with them.
use Rattle.std.proofs.Common.{◌≡◌, ◌∙◌, ℕ, ℤ, Bool, true, false, List, [], ◌∷◌, ◌++◌, map, if◌then◌else◌, ap, ap₂, refl}
use Rattle.stream_type.specs.StreamType.{StreamType}
use Rattle.stream_prefix.specs.StreamPrefix.{StreamPrefix, cat_both, in_left, in_right, star_emp, star_done, star_first, star_rest, is_maximal, der}
use Rattle.bunch.specs.Names.{put}
use Rattle.hist_value.specs.HistValue.{HistValue}
use Rattle.hist_value.specs.Evaluate.{value}
use Rattle.hist_value.specs.Wholes.{value_of, full}
use Rattle.core_term.specs.CoreTerm.{CoreTerm, CoreTerms, CoreBody, var_term, eps_term, unit_term, nil_term, past_term, par_term, cat_term, cons_term, inl_term, inr_term, let_term, let_par_term, let_cat_term, case_sum_term, case_star_term, wait_term, call_term, no_terms, term_before, leaf_types}
use Rattle.core_term.specs.FreeNames.{free_names, once}
use Rattle.bunch.specs.BunchTree.{leaf_names}
use Rattle.core_term.specs.Environment.{Environment, NameTypes}
use Rattle.core_term.specs.Parts.{par_left, par_right, cat_first, cat_second, sum_left, sum_right, star_item, star_items}
use Rattle.core_term.specs.Run.{Run, Runs}
use Rattle.core_term.specs.Meaning.{values, call_at, run_at, run_all}
use Rattle.delta_state.specs.StateTree.{Known, StateTree, sink, var_state, par_state, cat_state, let_state, let_par_state, let_cat_state, sum_state, star_state, wait_state, frame_state, argument_before}
use Rattle.delta_state.specs.StateMeaning.{past_in}
use Rattle.delta_state.specs.Rest.{cut_state, sum_rest, star_rest_state, rest_with, rest_all}
use Rattle.other_numbers.specs.Numbers.{exchanged, exchanged_value}
use Rattle.other_numbers.specs.StateNumbers.{exchanged_known, exchanged_later, exchanged_state, exchanged_arguments}
use Rattle.other_numbers.specs.Asked.{Asked, asked_each, once_whole, sum_asked, star_asked, asked_all, asked_at, call_asked_at}
use Rattle.other_numbers.specs.Commutes.{AllCommute}
use Rattle.other_numbers.proofs.PrefixNumbers.{maximal_stays, der_stays}
use Rattle.other_numbers.proofs.ValueNumbers.{value_of_goes, full_goes}
use Rattle.other_numbers.proofs.NameNumbers.{Along, along_put}
use Rattle.other_numbers.proofs.HeldNumbers.{along_known, taken_goes}
use Rattle.other_numbers.proofs.RunNumbers.{Goes}
use Rattle.other_numbers.proofs.TermRuns.{commute_left, commute_right, value_goes, values_go, along_pair, along_row, terms_go}
use Rattle.other_numbers.proofs.Calls.{calls_go_at, deep_term_goes}

module _ (f : ℤ → ℤ) where
  -- of a part that is whole what is left of the second, and else what waits
  pub whole_rest_goes : (w w' : Bool) → w' ≡ w → (q : List Asked) → AllCommute f (once_whole w q) → (a a' b b' : StateTree) → (AllCommute f q → a' ≡ exchanged_state f a) → b' ≡ exchanged_state f b
      → (if w' then a' else b') ≡ exchanged_state f (if w then a else b)
  whole_rest_goes w w' e q h a a' b b' ha hb = ap (λ v. if v then a' else b') e ∙ go w h
    where
      go : (w : Bool) → AllCommute f (once_whole w q) → (if w then a' else b') ≡ exchanged_state f (if w then a else b)
      go true h = ha h
      go false h = hb

  -- what is left of what has come on a name's stream
  pub run_leaves : (s : StreamType) {a a' : Run} {q q' : List Asked} → Goes f a a' q q' → der a'.out s ≡ der a.out s
  run_leaves s {a = a} x = ap (λ (u : Run). der u.out s) x.same_run ∙ der_stays f a.out s

  -- a destructuring of a sequence
  pub cut_goes : (x y z : ℕ) (s : StreamType) (p p' : StreamPrefix) → p' ≡ exchanged f p → (a a' : StateTree) → a' ≡ exchanged_state f a → cut_state x y z s p' a' ≡ exchanged_state f (cut_state x y z s p a)
  cut_goes x y z s p p' e a a' h = ap₂ (λ u v. cut_state x y z s u v) e h ∙ go p
    where
      go : (p : StreamPrefix) → cut_state x y z s (exchanged f p) (exchanged_state f a) ≡ exchanged_state f (cut_state x y z s p a)
      go (cat_both u v) =
          ap₂ (λ t r. let_state x t (sink t) (let_state y r (var_state z) (exchanged_state f a))) (der_stays f u (cat_first s)) (der_stays f v (cat_second s))
      go _ = refl

  -- a case on a sum
  pub sum_rest_goes : (z x y : ℕ) (s : StreamType) (p p' : StreamPrefix) → p' ≡ exchanged f p → (w w' : StateTree) (a a' b b' : StreamPrefix → StateTree) (q o : StreamPrefix → List Asked) → w' ≡ exchanged_state f w
      → ((u : StreamPrefix) → AllCommute f (q u) → a' (exchanged f u) ≡ exchanged_state f (a u))
      → ((u : StreamPrefix) → AllCommute f (o u) → b' (exchanged f u) ≡ exchanged_state f (b u))
      → AllCommute f (sum_asked p q o) → sum_rest z x y s p' w' a' b' ≡ exchanged_state f (sum_rest z x y s p w a b)
  sum_rest_goes z x y s p p' e w w' a a' b b' q o hw ha hb h = ap (λ u. sum_rest z x y s u w' a' b') e ∙ go p h
    where
      go : (p : StreamPrefix) → AllCommute f (sum_asked p q o) → sum_rest z x y s (exchanged f p) w' a' b' ≡ exchanged_state f (sum_rest z x y s p w a b)
      go (in_left u) h = ap₂ (λ t v. let_state x t (var_state z) v) (der_stays f u (sum_left s)) (ha u h)
      go (in_right u) h = ap₂ (λ t v. let_state y t (var_state z) v) (der_stays f u (sum_right s)) (hb u h)
      go _ h = hw

  -- a case on a star
  pub star_rest_goes : (z y ys : ℕ) (s : StreamType) (p p' : StreamPrefix) → p' ≡ exchanged f p → (w w' a a' : StateTree) (b b' : StreamPrefix → StreamPrefix → StateTree) (q : List Asked) (o : StreamPrefix → StreamPrefix → List Asked) → w' ≡ exchanged_state f w
      → (AllCommute f q → a' ≡ exchanged_state f a)
      → ((u v : StreamPrefix) → AllCommute f (o u v) → b' (exchanged f u) (exchanged f v) ≡ exchanged_state f (b u v))
      → AllCommute f (star_asked p q o) → star_rest_state z y ys s p' w' a' b' ≡ exchanged_state f (star_rest_state z y ys s p w a b)
  star_rest_goes z y ys s p p' e w w' a a' b b' q o hw ha hb h = ap (λ u. star_rest_state z y ys s u w' a' b') e ∙ go p h
    where
      go : (p : StreamPrefix) → AllCommute f (star_asked p q o) → star_rest_state z y ys s (exchanged f p) w' a' b' ≡ exchanged_state f (star_rest_state z y ys s p w a b)
      go star_done h = ha h
      go (star_first u) h = ap (let_cat_state y ys z) (hb u star_emp h)
      go (star_rest u v) h =
          ap₂ (λ t r. let_state y t (sink t) (let_state ys r (var_state z) (b' (exchanged f u) (exchanged f v)))) (der_stays f u (star_item s)) (der_stays f v s)
          ∙ ap (λ c. let_state y (der u (star_item s)) (sink (der u (star_item s))) (let_state ys (der v s) (var_state z) c)) (hb u v h)
      go _ h = hw

-- what calls leave goes along where what they ask does
pub record CallsLeave (f : ℤ → ℤ) (funs : ℕ → CoreBody) (k : ℕ) (call_rest : ℕ → List HistValue → List StreamPrefix → StateTree) : Type 0 where
  pub goes : (j : ℕ) (vs : List HistValue) (ps : List StreamPrefix) → AllCommute f (call_asked_at funs k j vs ps)
      → call_rest j (map (exchanged_value f) vs) (map (exchanged f) ps) ≡ exchanged_state f (call_rest j vs ps)

module _ (f : ℤ → ℤ) (funs : ℕ → CoreBody) (k : ℕ) (call_rest : ℕ → List HistValue → List StreamPrefix → StateTree) (leave : CallsLeave f funs k call_rest) where
  -- the run of a part on the other numbers
  part_goes : (e : CoreTerm) (T : NameTypes) (r : StreamType) (d d' : Environment) (es : List Known) → Along (exchanged f) d d' → AllCommute f (asked_at funs k e T r d (past_in es))
      → Goes f (run_at funs k e T r d (past_in es)) (run_at funs k e T r d' (past_in (map (exchanged_known f) es))) (asked_at funs k e T r d (past_in es)) (asked_at funs k e T r d' (past_in (map (exchanged_known f) es)))
  part_goes e T r d d' es h q = deep_term_goes f funs k e T r d d' (past_in es) (past_in (map (exchanged_known f) es)) h (along_known f es) q

  mutual
    pub term_rest_goes : (e : CoreTerm) (T : NameTypes) (r : StreamType) (d d' : Environment) (es : List Known) → Along (exchanged f) d d' → AllCommute f (asked_at funs k e T r d (past_in es))
        → rest_with funs k call_rest e T r d' (map (exchanged_known f) es) ≡ exchanged_state f (rest_with funs k call_rest e T r d es)
    term_rest_goes (var_term x) T r d d' es h q = refl
    term_rest_goes eps_term T r d d' es h q = refl
    term_rest_goes unit_term T r d d' es h q = refl
    term_rest_goes nil_term T r d d' es h q = refl
    term_rest_goes (past_term m) T r d d' es h q =
        let v = value m (past_in es) in
        ap (λ u. sink (der (full r u) r)) (value_goes f m (past_in es) (past_in (map (exchanged_known f) es)) (along_known f es) q)
        ∙ ap sink (ap (λ u. der u r) (full_goes f r v) ∙ der_stays f (full r v) r)
    term_rest_goes (par_term a b) T r d d' es h q =
        let first = asked_at funs k a T (par_left r) d (past_in es) in
        let second = asked_at funs k b T (par_right r) d (past_in es) in
        ap₂ par_state (term_rest_goes a T (par_left r) d d' es h (commute_left f first second q)) (term_rest_goes b T (par_right r) d d' es h (commute_right f first second q))
    term_rest_goes (cat_term a b) T r d d' es h q =
        let w = is_maximal (run_at funs k a T (cat_first r) d (past_in es)).out in
        let first = asked_at funs k a T (cat_first r) d (past_in es) in
        let second = asked_at funs k b T (cat_second r) d (past_in es) in
        let i = part_goes a T (cat_first r) d d' es h (commute_left f first (once_whole w second) q) in
        whole_rest_goes f w _ (ap (λ (u : Run). is_maximal u.out) i.same_run ∙ maximal_stays f (run_at funs k a T (cat_first r) d (past_in es)).out) second (commute_right f first (once_whole w second) q) _ _ _ _
        (term_rest_goes b T (cat_second r) d d' es h)
        (ap (λ s. cat_state s (exchanged_later f (record { term = b; past = es; depth = k }))) (term_rest_goes a T (cat_first r) d d' es h (commute_left f first (once_whole w second) q)))
    term_rest_goes (cons_term a b) T r d d' es h q =
        let w = is_maximal (run_at funs k a T (star_item r) d (past_in es)).out in
        let first = asked_at funs k a T (star_item r) d (past_in es) in
        let second = asked_at funs k b T (star_items r) d (past_in es) in
        let i = part_goes a T (star_item r) d d' es h (commute_left f first (once_whole w second) q) in
        whole_rest_goes f w _ (ap (λ (u : Run). is_maximal u.out) i.same_run ∙ maximal_stays f (run_at funs k a T (star_item r) d (past_in es)).out) second (commute_right f first (once_whole w second) q) _ _ _ _
        (term_rest_goes b T (star_items r) d d' es h)
        (ap (λ s. cat_state s (exchanged_later f (record { term = b; past = es; depth = k }))) (term_rest_goes a T (star_item r) d d' es h (commute_left f first (once_whole w second) q)))
    term_rest_goes (inl_term a) T r d d' es h q = term_rest_goes a T (sum_left r) d d' es h q
    term_rest_goes (inr_term a) T r d d' es h q = term_rest_goes a T (sum_right r) d d' es h q
    term_rest_goes (let_term x s a b) T r d d' es h q =
        let u = (run_at funs k a T s d (past_in es)).out in
        let u' = (run_at funs k a T s d' (past_in (map (exchanged_known f) es))).out in
        let first = asked_at funs k a T s d (past_in es) in
        let second = asked_at funs k b (put x s T) r (put x u d) (past_in es) in
        let i = part_goes a T s d d' es h (commute_left f first second q) in
        let head = term_rest_goes a T s d d' es h (commute_left f first second q) in
        let body = term_rest_goes b (put x s T) r (put x u d) (put x u' d') es (along_put (exchanged f) x u u' d d' (ap (λ (v : Run). v.out) i.same_run) h) (commute_right f first second q) in
        ap₂ (λ t v. let_state x t v (rest_with funs k call_rest b (put x s T) r (put x u' d') (map (exchanged_known f) es))) (run_leaves f s i) head
        ∙ ap (let_state x (der u s) (exchanged_state f (rest_with funs k call_rest a T s d es))) body
    term_rest_goes (let_par_term x y z a) T r d d' es h q = ap (let_par_state x y z) (term_rest_goes a _ r _ _ es (along_pair f x y z d d' h) q)
    term_rest_goes (let_cat_term x y z a) T r d d' es h q = cut_goes f x y z (T z) (d z) (d' z) (h.at z) _ _ (term_rest_goes a _ r _ _ es (along_row f x y z (cat_second (T z)) d d' h) q)
    term_rest_goes (case_sum_term z t x a y b) T r d d' es h q =
        sum_rest_goes f z x y (T z) (d z) (d' z) (h.at z) _ _ _ _ _ _ _ _
        (ap (λ held. sum_state z t held x (exchanged_later f (record { term = a; past = es; depth = k })) y (exchanged_later f (record { term = b; past = es; depth = k }))) (taken_goes f (once (free_names (case_sum_term z t x a y b))) T d d' h))
        (λ u. term_rest_goes a (put x (sum_left (T z)) T) r (put x u d) (put x (exchanged f u) d') es (along_put (exchanged f) x u (exchanged f u) d d' refl h))
        (λ u. term_rest_goes b (put y (sum_right (T z)) T) r (put y u d) (put y (exchanged f u) d') es (along_put (exchanged f) y u (exchanged f u) d d' refl h)) q
    term_rest_goes (case_star_term z t a y ys b) T r d d' es h q =
        star_rest_goes f z y ys (T z) (d z) (d' z) (h.at z) _ _ _ _ _ _ _ _
        (ap (λ held. star_state z t held (exchanged_later f (record { term = a; past = es; depth = k })) y ys (exchanged_later f (record { term = b; past = es; depth = k }))) (taken_goes f (once (free_names (case_star_term z t a y ys b))) T d d' h))
        (term_rest_goes a T r d d' es h)
        (λ u v. term_rest_goes b (put ys (star_items (T z)) (put y (star_item (T z)) T)) r (put ys v (put y u d)) (put ys (exchanged f v) (put y (exchanged f u) d')) es
        (along_put (exchanged f) ys v (exchanged f v) _ _ refl (along_put (exchanged f) y u (exchanged f u) d d' refl h))) q
    term_rest_goes (wait_term x t a) T r d d' es h q =
        let known = record { name = x; type = T x; value = value_of (d x) } ∷ es in
        whole_rest_goes f (is_maximal (d x)) (is_maximal (d' x)) (ap is_maximal (h.at x) ∙ maximal_stays f (d x)) (asked_at funs k a T r d (past_in known)) q _ _ _ _
        (λ i. ap (λ v. rest_with funs k call_rest a T r d' (record { name = x; type = T x; value = v } ∷ map (exchanged_known f) es)) (ap value_of (h.at x) ∙ value_of_goes f (d x)) ∙ term_rest_goes a T r d d' known h i)
        (ap (λ held. wait_state x t held (exchanged_later f (record { term = a; past = es; depth = k }))) (taken_goes f (once (free_names (wait_term x t a))) T d d' h))
    term_rest_goes (call_term j ms os) T r d d' es h q =
        let ts = leaf_types (funs j).params in
        let p = past_in es in
        let p' = past_in (map (exchanged_known f) es) in
        let here = asked_each ms p in
        let inside = asked_all funs (call_at funs k) (call_asked_at funs k) os ts T d p in
        let outs = (run_all funs (call_at funs k) os ts T d p).outs in
        let vs = values ms p in
        let body = call_asked_at funs k j vs outs in
        let rest = commute_right f here (inside ++ body) q in
        let args = terms_go f funs (call_at funs k) (call_asked_at funs k) (calls_go_at f funs k) os ts T d d' p p' h (along_known f es) (commute_left f inside body rest) in
        ap₂ frame_state (all_rests_go os (leaf_names (funs j).params) ts T d d' es h (commute_left f inside body rest))
        (ap₂ (call_rest j) (values_go f ms p p' (along_known f es) (commute_left f here (inside ++ body) q)) (ap (λ (u : Runs). u.outs) args.same_runs) ∙ leave.goes j vs outs (commute_right f inside body rest))

    -- arguments
    pub all_rests_go : (os : CoreTerms) (us : List ℕ) (ts : List StreamType) (T : NameTypes) (d d' : Environment) (es : List Known) → Along (exchanged f) d d'
        → AllCommute f (asked_all funs (call_at funs k) (call_asked_at funs k) os ts T d (past_in es))
        → rest_all funs k call_rest os us ts T d' (map (exchanged_known f) es) ≡ exchanged_arguments f (rest_all funs k call_rest os us ts T d es)
    all_rests_go no_terms us ts T d d' es h q = refl
    all_rests_go (term_before e os) [] ts T d d' es h q = refl
    all_rests_go (term_before e os) (u ∷ us) [] T d d' es h q = refl
    all_rests_go (term_before e os) (u ∷ us) (t ∷ ts) T d d' es h q =
        let first = asked_at funs k e T t d (past_in es) in
        let others = asked_all funs (call_at funs k) (call_asked_at funs k) os ts T d (past_in es) in
        let i = part_goes e T t d d' es h (commute_left f first others q) in
        ap₂ (λ s v. argument_before u s v (rest_all funs k call_rest os us ts T d' (map (exchanged_known f) es))) (run_leaves f t i) (term_rest_goes e T t d d' es h (commute_left f first others q))
        ∙ ap (argument_before u (der (run_at funs k e T t d (past_in es)).out t) (exchanged_state f (rest_with funs k call_rest e T t d es))) (all_rests_go os us ts T d d' es h (commute_right f first others q))
