-- The bound of a term depends on the types of its free names and on the order between them alone, and with more
-- facts it is no greater.
use Rattle.std.proofs.Common.{◌≡◌, ◌∙◌, ℕ, Bool, true, false, true≢false, List, ◌∷◌, ◌++◌, if◌then◌else◌, ap, refl, subst, sym, arith}
use Rattle.std.specs.Prelude.{Some}
use Rattle.bunch.specs.Names.{put, holds}
use Rattle.bunch.specs.Facts.{Facts, place_let}
use Rattle.core_term.specs.CoreTerm.{CoreTerm, CoreTerms, CoreBody, var_term, eps_term, unit_term, nil_term, past_term, par_term, cat_term, cons_term, inl_term, inr_term, let_term, let_par_term, let_cat_term, case_sum_term, case_star_term, wait_term, call_term, no_terms, term_before}
use Rattle.core_term.specs.FreeNames.{free_names, free_in_terms, without, once}
use Rattle.core_term.specs.Environment.{NameTypes}
use Rattle.core_term.specs.Inert.{is_inert}
use Rattle.core_term.specs.Parts.{par_left, par_right, cat_first, cat_second, sum_left, sum_right, star_item, star_items}
use Rattle.core_term.proofs.Sides.{holds-head}
use Rattle.core_term.proofs.Without.{holds-kept}
use Rattle.core_term.proofs.OnceEach.{holds-once}
use Rattle.core_term.proofs.Retyping.{among_same}
use Rattle.state_steps.proofs.FactsWithin.{within_on_let}
use Rattle.state_steps.proofs.NamesAmong.{among_first, among_second}
use Rattle.state_bounds.specs.Bounds.{Bound, ◌⊑◌, size_of}
use Rattle.state_bounds.specs.TermBounds.{room_of, case_room, wait_room, bound_of, bounds_of}
use Rattle.state_bounds.proofs.BoundOrder.{at_most_same, both_at_most, greater_at_most, nothing_at_most, total_at_most}
use Rattle.state_bounds.proofs.MoreFacts.{Gains, gains_fewer, gains_left, gains_right, gains_tail, gains_put, gains_like, gains_pair, gains_row}

-- what can come on a name is no more with more facts,
room_at_most : (xs : List ℕ) (T U : NameTypes) (O Q : Facts) → Gains xs T U O Q → (z : ℕ) → holds z xs ≡ true → (y : ℕ) → holds y xs ≡ true → room_of U Q z y ⊑ room_of T O z y
room_at_most xs T U O Q h z n y m = go (O z y) (Q z y) (h.order.at z y n m)
  where
    go : (o q : Bool) → (o ≡ true → q ≡ true) → (if q then Some 0 else size_of (U y)) ⊑ (if o then Some 0 else size_of (T y))
    go true true f = omega arith
    go true false f = absurd (true≢false (sym (f refl)))
    go false true f = nothing_at_most (size_of (T y))
    go false false f = subst (λ t. size_of t ⊑ size_of (T y)) (h.types y m) (at_most_same (size_of (T y)))

-- so a case can hold no more,
pub case_at_most : (T U : NameTypes) (O Q : Facts) (z : ℕ) (xs : List ℕ) → holds z xs ≡ true → Gains xs T U O Q → case_room U Q z xs ⊑ case_room T O z xs
case_at_most T U O Q z xs n h =
    total_at_most (room_of U Q z) (room_of T O z) (without z (once xs)) (λ y m. room_at_most xs T U O Q h z n y (sym (holds-once y xs) ∙ holds-kept y z (once xs) m))

-- nor can a wait
pub wait_at_most : (T U : NameTypes) (O Q : Facts) (x : ℕ) (xs : List ℕ) → holds x xs ≡ true → Gains xs T U O Q → wait_room U Q x xs ⊑ wait_room T O x xs
wait_at_most T U O Q x xs n h = total_at_most (room_of U Q x) (room_of T O x) (once xs) (λ y m. room_at_most xs T U O Q h x n y (sym (holds-once y xs) ∙ m))

module _ (funs : ℕ → CoreBody) (counts : ℕ → Bool) (numbers : ℕ → Bound) where
  mutual
    -- nor can any term,
    pub term_at_most : (e : CoreTerm) (T U : NameTypes) (O Q : Facts) → Gains (free_names e) T U O Q → bound_of funs counts numbers e U Q ⊑ bound_of funs counts numbers e T O
    term_at_most (var_term x) T U O Q h = omega arith
    term_at_most eps_term T U O Q h = omega arith
    term_at_most unit_term T U O Q h = omega arith
    term_at_most nil_term T U O Q h = omega arith
    term_at_most (past_term m) T U O Q h = omega arith
    term_at_most (par_term a b) T U O Q h =
        both_at_most _ _ _ _ (term_at_most a T U O Q (gains_left (free_names a) (free_names b) T U O Q h)) (term_at_most b T U O Q (gains_right (free_names a) (free_names b) T U O Q h))
    term_at_most (cat_term a b) T U O Q h =
        greater_at_most _ _ _ _ (term_at_most a T U O Q (gains_left (free_names a) (free_names b) T U O Q h)) (term_at_most b T U O Q (gains_right (free_names a) (free_names b) T U O Q h))
    term_at_most (cons_term a b) T U O Q h =
        greater_at_most _ _ _ _ (term_at_most a T U O Q (gains_left (free_names a) (free_names b) T U O Q h)) (term_at_most b T U O Q (gains_right (free_names a) (free_names b) T U O Q h))
    term_at_most (inl_term a) T U O Q h = term_at_most a T U O Q h
    term_at_most (inr_term a) T U O Q h = term_at_most a T U O Q h
    term_at_most (let_term x s a b) T U O Q h =
        both_at_most _ _ _ _ (term_at_most a T U O Q (gains_left (free_names a) (without x (free_names b)) T U O Q h))
        (term_at_most b (put x s T) (put x s U) (place_let x (free_names a) (is_inert funs counts a s) O) (place_let x (free_names a) (is_inert funs counts a s) Q)
        (gains_put x s s (free_names b) T U O Q _ _ refl (gains_right (free_names a) (without x (free_names b)) T U O Q h)
        (within_on_let x (free_names a) (free_names a) (free_names b) (is_inert funs counts a s) (is_inert funs counts a s) O Q h.order (among_same (free_names a)) (λ i. i))))
    term_at_most (let_par_term x y z a) T U O Q h =
        let e = h.types z (holds-head z (without x (without y (free_names a)))) in
        term_at_most a _ _ _ _ (gains_pair x y z _ _ _ _ (free_names a) T U O Q (ap par_left e) (ap par_right e) h)
    term_at_most (let_cat_term x y z a) T U O Q h =
        let e = h.types z (holds-head z (without x (without y (free_names a)))) in
        term_at_most a _ _ _ _ (gains_row x y z _ _ _ _ (free_names a) T U O Q (ap cat_first e) (ap cat_second e) h)
    term_at_most (case_sum_term z t x a y b) T U O Q h =
        let e = h.types z (holds-head z (without x (free_names a) ++ without y (free_names b))) in
        greater_at_most _ _ _ _ (case_at_most T U O Q z (free_names (case_sum_term z t x a y b)) (holds-head z (without x (free_names a) ++ without y (free_names b))) h)
        (greater_at_most _ _ _ _
        (term_at_most a _ _ _ _ (gains_like x z _ _ (free_names a) T U O Q (ap sum_left e) (gains_fewer _ (z ∷ without x (free_names a)) T U O Q (among_first z (without x (free_names a)) (without y (free_names b))) h)))
        (term_at_most b _ _ _ _ (gains_like y z _ _ (free_names b) T U O Q (ap sum_right e) (gains_fewer _ (z ∷ without y (free_names b)) T U O Q (among_second z (without x (free_names a)) (without y (free_names b))) h))))
    term_at_most (case_star_term z t a y ys b) T U O Q h =
        let e = h.types z (holds-head z (free_names a ++ without y (without ys (free_names b)))) in
        greater_at_most _ _ _ _ (case_at_most T U O Q z (free_names (case_star_term z t a y ys b)) (holds-head z (free_names a ++ without y (without ys (free_names b)))) h)
        (greater_at_most _ _ _ _
        (term_at_most a T U O Q (gains_left (free_names a) (without y (without ys (free_names b))) T U O Q (gains_tail z _ T U O Q h)))
        (term_at_most b _ _ _ _ (gains_row y ys z _ _ _ _ (free_names b) T U O Q (ap star_item e) (ap star_items e)
        (gains_fewer _ (z ∷ without y (without ys (free_names b))) T U O Q (among_second z (free_names a) (without y (without ys (free_names b)))) h))))
    term_at_most (wait_term x t a) T U O Q h =
        greater_at_most _ _ _ _ (wait_at_most T U O Q x (free_names (wait_term x t a)) (holds-head x (free_names a)) h) (term_at_most a T U O Q (gains_tail x (free_names a) T U O Q h))
    term_at_most (call_term f ms es) T U O Q h = both_at_most _ _ _ _ (terms_at_most es T U O Q h) (at_most_same (numbers f))

    -- nor can the arguments of a call
    pub terms_at_most : (es : CoreTerms) (T U : NameTypes) (O Q : Facts) → Gains (free_in_terms es) T U O Q → bounds_of funs counts numbers es U Q ⊑ bounds_of funs counts numbers es T O
    terms_at_most no_terms T U O Q h = omega arith
    terms_at_most (term_before e es) T U O Q h =
        both_at_most _ _ _ _ (term_at_most e T U O Q (gains_left (free_names e) (free_in_terms es) T U O Q h)) (terms_at_most es T U O Q (gains_right (free_names e) (free_in_terms es) T U O Q h))
