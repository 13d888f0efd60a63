-- The bound of a state depends on what its context has of its free names alone, and with more facts it is no
-- greater.
use Rattle.std.proofs.Common.{◌≡◌, ◌∙◌, ℕ, true, ◌&&◌, List, ap, ap₂, refl, sym, arith}
use Rattle.std.specs.Prelude.{Some, is_some, unwrap_or}
use Rattle.std.specs.List.{list_all}
use Rattle.stream_type.specs.StreamType.{eps}
use Rattle.bunch.specs.Names.{holds}
use Rattle.bunch.specs.Facts.{place_let}
use Rattle.bunch.proofs.Tests.{and_first, and_second}
use Rattle.core_term.specs.CoreTerm.{CoreBody, case_sum_term, case_star_term, wait_term, fun_at}
use Rattle.core_term.specs.FreeNames.{without, free_names}
use Rattle.core_term.specs.Inert.{is_inert_fun}
use Rattle.core_term.specs.Parts.{par_left, par_right, cat_first, cat_second}
use Rattle.core_term.specs.Typing.{Context, type_at, types_of, is_before, with_name, with_fact, with_parts}
use Rattle.core_term.proofs.Sides.{holds-head}
use Rattle.core_term.proofs.Retyping.{among_same}
use Rattle.delta_state.specs.StateTree.{HeldName, StateTree, ArgumentTrees, sink, var_state, par_state, cat_state, let_state, let_par_state, let_cat_state, sum_state, star_state, wait_state, frame_state, no_arguments, argument_before, argument_names, argument_at, free_in_state, free_in_arguments, free_in_sum, free_in_star, free_in_wait}
use Rattle.delta_state.specs.StateMeaning.{types_held}
use Rattle.delta_state.specs.StateTyping.{facts_held, context_of_arguments}
use Rattle.state_steps.proofs.NamesAmong.{among_argument}
use Rattle.state_steps.proofs.FactsWithin.{within_on_let}
use Rattle.state_steps.proofs.NarrowedStates.{sees_held, facts_follow}
use Rattle.state_bounds.specs.Bounds.{Bound, ◌⊑◌}
use Rattle.state_bounds.specs.StateBounds.{state_bound, argument_bounds}
use Rattle.state_bounds.proofs.BoundOrder.{both_at_most, greater_at_most}
use Rattle.state_bounds.proofs.MoreFacts.{Gains, gains_left, gains_right, gains_put, gains_pair, gains_row}
use Rattle.state_bounds.proofs.TermsWithMoreFacts.{term_at_most}

-- of the names of the list both contexts have the same types, and the second has no fewer facts
abbrev pub Roomy : List ℕ → Context → Context → Type 0
Roomy xs c e = Gains xs c.types e.types c.order e.order

-- types of all names too,
roomy_types : (xs : List ℕ) (c e : Context) → Roomy xs c e → Gains xs (types_of c) (types_of e) c.order e.order
roomy_types xs c e h = record { types = λ x m. ap (λ o. unwrap_or o eps) (h.types x m); order = h.order }

-- what is held over both,
roomy_held : (xs : List ℕ) (held : List HeldName) (c e : Context) → Roomy xs c e → Gains xs (types_held held) (types_held held) (facts_held held c.order) (facts_held held e.order)
roomy_held xs held c e h = record { types = λ x m. refl; order = (sees_held xs held c.order e.order h.order).order }

-- what stands before what,
roomy_before : (xs : List ℕ) (c e : Context) → Roomy xs c e → (x y : ℕ) → holds x xs ≡ true → holds y xs ≡ true → is_before c x y ≡ true → is_before e x y ≡ true
roomy_before xs c e h x y m n k =
    ap₂ ◌&&◌ (ap₂ ◌&&◌ (ap is_some (sym (h.types x m))) (ap is_some (sym (h.types y n))) ∙ and_first (is_some (c.types x) && is_some (c.types y)) (c.order x y) k)
    (h.order.at x y m n (and_second (is_some (c.types x) && is_some (c.types y)) (c.order x y) k))

-- and the parameters of a frame have no fewer facts
roomy_arguments : (ys : List ℕ) (args : ArgumentTrees) (c e : Context) → Roomy (free_in_arguments args) c e → Roomy ys (context_of_arguments c args) (context_of_arguments e args)
roomy_arguments ys args c e h = record {
  types = λ x m. refl;
  order = record {
    at = λ u v m n k.
        let named = holds u (argument_names args) && holds v (argument_names args) in
        let facts = list_all (λ x. list_all (λ y. is_before c x y) (free_in_state (argument_at args v))) (free_in_state (argument_at args u)) in
        ap₂ ◌&&◌ (and_first named facts k)
        (facts_follow c e _ _ _ _ (among_same (free_in_state (argument_at args u))) (among_same (free_in_state (argument_at args v)))
        (λ x y i j b. roomy_before (free_in_arguments args) c e h x y ((among_argument args u).at x i) ((among_argument args v).at y j) b) (and_second named facts k));
  };
}

module _ (funs : List CoreBody) (numbers : ℕ → Bound) where
  mutual
    -- no state can hold more with more facts,
    pub state_at_most : (s : StateTree) (c e : Context) → Roomy (free_in_state s) c e → state_bound funs numbers s e ⊑ state_bound funs numbers s c
    state_at_most (sink t) c e h = omega arith
    state_at_most (var_state x) c e h = omega arith
    state_at_most (par_state a b) c e h =
        both_at_most _ _ _ _ (state_at_most a c e (gains_left (free_in_state a) (free_in_state b) c.types e.types c.order e.order h)) (state_at_most b c e (gains_right (free_in_state a) (free_in_state b) c.types e.types c.order e.order h))
    state_at_most (cat_state a l) c e h =
        greater_at_most _ _ _ _ (state_at_most a c e (gains_left (free_in_state a) (free_names l.term) c.types e.types c.order e.order h))
        (term_at_most (fun_at funs) (is_inert_fun funs) numbers l.term (types_of c) (types_of e) c.order e.order (roomy_types (free_names l.term) c e (gains_right (free_in_state a) (free_names l.term) c.types e.types c.order e.order h)))
    state_at_most (let_state x s a b) c e h =
        both_at_most _ _ _ _ (state_at_most a c e (gains_left (free_in_state a) (without x (free_in_state b)) c.types e.types c.order e.order h))
        (state_at_most b (with_name x s (place_let x (free_in_state a) true c.order) c) (with_name x s (place_let x (free_in_state a) true e.order) e)
        (gains_put x (Some s) (Some s) (free_in_state b) c.types e.types c.order e.order _ _ refl (gains_right (free_in_state a) (without x (free_in_state b)) c.types e.types c.order e.order h)
        (within_on_let x (free_in_state a) (free_in_state a) (free_in_state b) true true c.order e.order h.order (among_same (free_in_state a)) (λ i. i))))
    state_at_most (let_par_state x y z a) c e h =
        let same : type_at c z ≡ type_at e z = ap (λ o. unwrap_or o eps) (h.types z (holds-head z (without x (without y (free_in_state a))))) in
        state_at_most a (with_parts x (par_left (type_at c z)) y (par_right (type_at c z)) z c) (with_parts x (par_left (type_at e z)) y (par_right (type_at e z)) z e) (gains_pair x y z _ _ _ _ (free_in_state a) c.types e.types c.order e.order (ap (λ u. Some (par_left u)) same) (ap (λ u. Some (par_right u)) same) h)
    state_at_most (let_cat_state x y z a) c e h =
        let same : type_at c z ≡ type_at e z = ap (λ o. unwrap_or o eps) (h.types z (holds-head z (without x (without y (free_in_state a))))) in
        state_at_most a (with_fact x y (with_parts x (cat_first (type_at c z)) y (cat_second (type_at c z)) z c)) (with_fact x y (with_parts x (cat_first (type_at e z)) y (cat_second (type_at e z)) z e))
        (gains_row x y z _ _ _ _ (free_in_state a) c.types e.types c.order e.order (ap (λ u. Some (cat_first u)) same) (ap (λ u. Some (cat_second u)) same) h)
    state_at_most (sum_state z t held x l y m) c e h =
        term_at_most (fun_at funs) (is_inert_fun funs) numbers (case_sum_term z t x l.term y m.term) (types_held held) (types_held held) (facts_held held c.order) (facts_held held e.order) (roomy_held (free_in_sum z x l y m) held c e h)
    state_at_most (star_state z t held l y ys m) c e h =
        term_at_most (fun_at funs) (is_inert_fun funs) numbers (case_star_term z t l.term y ys m.term) (types_held held) (types_held held) (facts_held held c.order) (facts_held held e.order) (roomy_held (free_in_star z l y ys m) held c e h)
    state_at_most (wait_state x t held l) c e h =
        term_at_most (fun_at funs) (is_inert_fun funs) numbers (wait_term x t l.term) (types_held held) (types_held held) (facts_held held c.order) (facts_held held e.order) (roomy_held (free_in_wait x l) held c e h)
    state_at_most (frame_state args s) c e h =
        both_at_most _ _ _ _ (arguments_at_most args c e h) (state_at_most s (context_of_arguments c args) (context_of_arguments e args) (roomy_arguments (free_in_state s) args c e h))

    -- nor can the arguments of a frame
    pub arguments_at_most : (args : ArgumentTrees) (c e : Context) → Roomy (free_in_arguments args) c e → argument_bounds funs numbers args e ⊑ argument_bounds funs numbers args c
    arguments_at_most no_arguments c e h = omega arith
    arguments_at_most (argument_before x t s args) c e h =
        both_at_most _ _ _ _ (state_at_most s c e (gains_left (free_in_state s) (free_in_arguments args) c.types e.types c.order e.order h)) (arguments_at_most args c e (gains_right (free_in_state s) (free_in_arguments args) c.types e.types c.order e.order h))
