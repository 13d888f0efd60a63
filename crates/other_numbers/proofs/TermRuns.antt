-- Terms on other numbers, where calls go along: a term runs the same way, and asks the same, with those numbers.
use Rattle.std.proofs.Common.{◌≡◌, ◌∙◌, ℕ, ℤ, List, [], ◌∷◌, ◌++◌, map, ap, ap₂, refl}
use Rattle.std.proofs.lemmas.List.Elements.{All-nil, All-cons, All-head, All-tail}
use Rattle.stream_type.specs.StreamType.{StreamType, eps}
use Rattle.stream_prefix.specs.StreamPrefix.{StreamPrefix, eps_emp, one_full, star_done, in_left, in_right, is_maximal}
use Rattle.bunch.specs.Names.{put}
use Rattle.hist_value.specs.HistExpr.{HistExpr}
use Rattle.hist_value.specs.HistValue.{HistValue}
use Rattle.hist_value.specs.Evaluate.{value}
use Rattle.hist_value.specs.Wholes.{value_of, full}
use Rattle.core_term.specs.CoreTerm.{CoreTerm, CoreTerms, CoreBody, var_term, eps_term, unit_term, nil_term, past_term, par_term, cat_term, cons_term, inl_term, inr_term, let_term, let_par_term, let_cat_term, case_sum_term, case_star_term, wait_term, call_term, no_terms, term_before, is_var, leaf_types}
use Rattle.core_term.specs.Environment.{Environment, NameTypes}
use Rattle.core_term.specs.Parts.{par_left, par_right, cat_first, cat_second, sum_left, sum_right, star_item, star_items, left_part, right_part, first_part, second_part, as_star}
use Rattle.core_term.specs.Run.{Run, Runs}
use Rattle.core_term.specs.Meaning.{Past, Calls, values, run_with, run_all}
use Rattle.other_numbers.specs.Numbers.{exchanged, exchanged_value}
use Rattle.other_numbers.specs.Asked.{Asked, CallsAsk, asked_each, once_whole, asked_with, asked_all}
use Rattle.other_numbers.specs.Commutes.{Commutes, AllCommute, exchanged_asked}
use Rattle.other_numbers.proofs.PrefixNumbers.{left_part_goes, right_part_goes, first_part_goes, second_part_goes, as_star_goes}
use Rattle.other_numbers.proofs.ValueNumbers.{value_of_goes, full_goes}
use Rattle.other_numbers.proofs.NameNumbers.{Along, along_same, along_put}
use Rattle.other_numbers.proofs.RunNumbers.{Goes, GoAll, append_goes, each_goes, quiet_goes, relabel_goes, par_goes, cat_goes, let_goes, sum_goes, star_goes, wait_goes, no_runs_go, before_goes, call_goes}

-- what all of two lists in a row have, those of the first have, and those of the second
pub commute_left : (f : ℤ → ℤ) (xs ys : List Asked) → AllCommute f (xs ++ ys) → AllCommute f xs
commute_left f [] ys h = All-nil (Commutes f)
commute_left f (x ∷ xs) ys h = All-cons (Commutes f) x xs (All-head (Commutes f) x (xs ++ ys) h) (commute_left f xs ys (All-tail (Commutes f) x (xs ++ ys) h))

pub commute_right : (f : ℤ → ℤ) (xs ys : List Asked) → AllCommute f (xs ++ ys) → AllCommute f ys
commute_right f [] ys h = h
commute_right f (x ∷ xs) ys h = commute_right f xs ys (All-tail (Commutes f) x (xs ++ ys) h)

-- calls go along where what they ask does
pub record CallsGo (f : ℤ → ℤ) (call : Calls) (asks : CallsAsk) : Type 0 where
  pub goes : (j : ℕ) (vs : List HistValue) (ps : List StreamPrefix) → AllCommute f (asks j vs ps)
      → Goes f (call j vs ps) (call j (map (exchanged_value f) vs) (map (exchanged f) ps)) (asks j vs ps) (asks j (map (exchanged_value f) vs) (map (exchanged f) ps))

module _ (f : ℤ → ℤ) where
  -- an expression that is asked has the other value
  pub value_goes : (m : HistExpr) (p p' : Past) → Along (exchanged_value f) p p' → AllCommute f (asked_each (m ∷ []) p) → value m p' ≡ exchanged_value f (value m p)
  value_goes m p p' k h = ap (value m) (along_same (exchanged_value f) p p' k) ∙ All-head (Commutes f) (record { expr = m; past = p }) [] h

  -- and so have historical arguments
  pub values_go : (ms : List HistExpr) (p p' : Past) → Along (exchanged_value f) p p' → AllCommute f (asked_each ms p) → values ms p' ≡ map (exchanged_value f) (values ms p)
  values_go [] p p' k h = refl
  values_go (m ∷ ms) p p' k h =
      ap₂ ◌∷◌ (ap (value m) (along_same (exchanged_value f) p p' k) ∙ All-head (Commutes f) (record { expr = m; past = p }) (asked_each ms p) h)
      (values_go ms p p' k (All-tail (Commutes f) (record { expr = m; past = p }) (asked_each ms p) h))

  -- what two parts of a pair are bound to
  pub along_pair : (x y z : ℕ) (d d' : Environment) → Along (exchanged f) d d'
      → Along (exchanged f) (put y (right_part (d z)) (put x (left_part (d z)) d)) (put y (right_part (d' z)) (put x (left_part (d' z)) d'))
  along_pair x y z d d' h =
      along_put (exchanged f) y (right_part (d z)) (right_part (d' z)) _ _ (ap right_part (h.at z) ∙ right_part_goes f (d z))
      (along_put (exchanged f) x (left_part (d z)) (left_part (d' z)) d d' (ap left_part (h.at z) ∙ left_part_goes f (d z)) h)

  -- of a sequence, whose second one is of type t
  pub along_row : (x y z : ℕ) (t : StreamType) (d d' : Environment) → Along (exchanged f) d d'
      → Along (exchanged f) (put y (second_part t (d z)) (put x (first_part (d z)) d)) (put y (second_part t (d' z)) (put x (first_part (d' z)) d'))
  along_row x y z t d d' h =
      along_put (exchanged f) y (second_part t (d z)) (second_part t (d' z)) _ _ (ap (second_part t) (h.at z) ∙ second_part_goes f t (d z))
      (along_put (exchanged f) x (first_part (d z)) (first_part (d' z)) d d' (ap first_part (h.at z) ∙ first_part_goes f (d z)) h)

  -- a name that is waited for
  pub along_waited : (x : ℕ) (u u' : StreamPrefix) (p p' : Past) → u' ≡ exchanged f u → Along (exchanged_value f) p p' → Along (exchanged_value f) (put x (value_of u) p) (put x (value_of u') p')
  along_waited x u u' p p' e k = along_put (exchanged_value f) x (value_of u) (value_of u') p p' (ap value_of e ∙ value_of_goes f u) k

module _ (f : ℤ → ℤ) (funs : ℕ → CoreBody) (call : Calls) (asks : CallsAsk) (calls_go : CallsGo f call asks) where
  mutual
    pub term_goes : (e : CoreTerm) (T : NameTypes) (r : StreamType) (d d' : Environment) (p p' : Past) → Along (exchanged f) d d' → Along (exchanged_value f) p p' → AllCommute f (asked_with funs call asks e T r d p)
        → Goes f (run_with funs call e T r d p) (run_with funs call e T r d' p') (asked_with funs call asks e T r d p) (asked_with funs call asks e T r d' p')
    term_goes (var_term x) T r d d' p p' h k q = quiet_goes f (d x) (d' x) (h.at x)
    term_goes eps_term T r d d' p p' h k q = quiet_goes f eps_emp eps_emp refl
    term_goes unit_term T r d d' p p' h k q = quiet_goes f one_full one_full refl
    term_goes nil_term T r d d' p p' h k q = quiet_goes f star_done star_done refl
    term_goes (past_term m) T r d d' p p' h k q = record {
      same_run = ap (λ v. record { out = full r v; calls = 0; level = 0 }) (value_goes f m p p' k q) ∙ ap (λ u. record { out = u; calls = 0; level = 0 }) (full_goes f r (value m p));
      same_asks = each_goes f (m ∷ []) p p' (along_same (exchanged_value f) p p' k);
    }
    term_goes (par_term a b) T r d d' p p' h k q =
        par_goes f (term_goes a T (par_left r) d d' p p' h k (commute_left f (asked_with funs call asks a T (par_left r) d p) (asked_with funs call asks b T (par_right r) d p) q))
        (term_goes b T (par_right r) d d' p p' h k (commute_right f (asked_with funs call asks a T (par_left r) d p) (asked_with funs call asks b T (par_right r) d p) q))
    term_goes (cat_term a b) T r d d' p p' h k q =
        let first = asked_with funs call asks a T (cat_first r) d p in
        let second = once_whole (is_maximal (run_with funs call a T (cat_first r) d p).out) (asked_with funs call asks b T (cat_second r) d p) in
        cat_goes f _ _ _ _ _ _ _ _ (term_goes a T (cat_first r) d d' p p' h k (commute_left f first second q)) (term_goes b T (cat_second r) d d' p p' h k) (commute_right f first second q)
    term_goes (cons_term a b) T r d d' p p' h k q =
        let first = asked_with funs call asks a T (star_item r) d p in
        let second = once_whole (is_maximal (run_with funs call a T (star_item r) d p).out) (asked_with funs call asks b T (star_items r) d p) in
        relabel_goes f as_star (as_star_goes f)
        (cat_goes f _ _ _ _ _ _ _ _ (term_goes a T (star_item r) d d' p p' h k (commute_left f first second q)) (term_goes b T (star_items r) d d' p p' h k) (commute_right f first second q))
    term_goes (inl_term a) T r d d' p p' h k q = relabel_goes f in_left (λ u. refl) (term_goes a T (sum_left r) d d' p p' h k q)
    term_goes (inr_term a) T r d d' p p' h k q = relabel_goes f in_right (λ u. refl) (term_goes a T (sum_right r) d d' p p' h k q)
    term_goes (let_term x s a b) T r d d' p p' h k q =
        let first = asked_with funs call asks a T s d p in
        let second = asked_with funs call asks b (put x s T) r (put x (run_with funs call a T s d p).out d) p in
        let head = term_goes a T s d d' p p' h k (commute_left f first second q) in
        let_goes f (is_var a) head
        (term_goes b (put x s T) r (put x (run_with funs call a T s d p).out d) (put x (run_with funs call a T s d' p').out d') p p'
        (along_put (exchanged f) x (run_with funs call a T s d p).out (run_with funs call a T s d' p').out d d' (ap (λ (u : Run). u.out) head.same_run) h) k (commute_right f first second q))
    term_goes (let_par_term x y z a) T r d d' p p' h k q = term_goes a _ r _ _ p p' (along_pair f x y z d d' h) k q
    term_goes (let_cat_term x y z a) T r d d' p p' h k q = term_goes a _ r _ _ p p' (along_row f x y z (cat_second (T z)) d d' h) k q
    term_goes (case_sum_term z t x a y b) T r d d' p p' h k q =
        sum_goes f r (d z) (d' z) (h.at z) _ _ _ _ _ _ _ _
        (λ u. term_goes a (put x (sum_left (T z)) T) r (put x u d) (put x (exchanged f u) d') p p' (along_put (exchanged f) x u (exchanged f u) d d' refl h) k)
        (λ u. term_goes b (put y (sum_right (T z)) T) r (put y u d) (put y (exchanged f u) d') p p' (along_put (exchanged f) y u (exchanged f u) d d' refl h) k) q
    term_goes (case_star_term z t a y ys b) T r d d' p p' h k q =
        star_goes f r (d z) (d' z) (h.at z) _ _ _ _ _ _ _ _ (term_goes a T r d d' p p' h k)
        (λ u v. term_goes b (put ys (star_items (T z)) (put y (star_item (T z)) T)) r (put ys v (put y u d)) (put ys (exchanged f v) (put y (exchanged f u) d')) p p'
        (along_put (exchanged f) ys v (exchanged f v) _ _ refl (along_put (exchanged f) y u (exchanged f u) d d' refl h)) k) q
    term_goes (wait_term x t a) T r d d' p p' h k q =
        wait_goes f r (d x) (d' x) (h.at x) _ _ _ _ (term_goes a T r d d' (put x (value_of (d x)) p) (put x (value_of (d' x)) p') h (along_waited f x (d x) (d' x) p p' (h.at x) k)) q
    term_goes (call_term j ms es) T r d d' p p' h k q =
        let ts = leaf_types (funs j).params in
        let here = asked_each ms p in
        let inside = asked_all funs call asks es ts T d p in
        let outs = (run_all funs call es ts T d p).outs in
        let outs' = (run_all funs call es ts T d' p').outs in
        let vs = values ms p in
        let body = asks j vs outs in
        let rest = commute_right f here (inside ++ body) q in
        let args = terms_go es ts T d d' p p' h k (commute_left f inside body rest) in
        let ev : values ms p' ≡ map (exchanged_value f) vs = values_go f ms p p' k (commute_left f here (inside ++ body) q) in
        let eo : outs' ≡ map (exchanged f) outs = ap (λ (u : Runs). u.outs) args.same_runs in
        let b = calls_go.goes j vs outs (commute_right f inside body rest) in
        let whole = call_goes f args (record { same_run = ap₂ (call j) ev eo ∙ b.same_run; same_asks = ap₂ (asks j) ev eo ∙ b.same_asks }) in
        record { same_run = whole.same_run; same_asks = append_goes (exchanged_asked f) here (inside ++ body) _ _ (each_goes f ms p p' (along_same (exchanged_value f) p p' k)) whole.same_asks }

    pub terms_go : (es : CoreTerms) (ts : List StreamType) (T : NameTypes) (d d' : Environment) (p p' : Past) → Along (exchanged f) d d' → Along (exchanged_value f) p p' → AllCommute f (asked_all funs call asks es ts T d p)
        → GoAll f (run_all funs call es ts T d p) (run_all funs call es ts T d' p') (asked_all funs call asks es ts T d p) (asked_all funs call asks es ts T d' p')
    terms_go no_terms ts T d d' p p' h k q = no_runs_go f
    terms_go (term_before e es) [] T d d' p p' h k q =
        let first = asked_with funs call asks e T eps d p in
        let others = asked_all funs call asks es [] T d p in
        before_goes f (is_var e) (term_goes e T eps d d' p p' h k (commute_left f first others q)) (terms_go es [] T d d' p p' h k (commute_right f first others q))
    terms_go (term_before e es) (t ∷ ts) T d d' p p' h k q =
        let first = asked_with funs call asks e T t d p in
        let others = asked_all funs call asks es ts T d p in
        before_goes f (is_var e) (term_goes e T t d d' p p' h k (commute_left f first others q)) (terms_go es ts T d d' p p' h k (commute_right f first others q))
