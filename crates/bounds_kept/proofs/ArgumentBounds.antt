-- What arguments can hold where some are left out, and where those of two calls become one: an argument that may
-- hold something is passed on once at most, so it counts once at most.
use Rattle.std.proofs.Common.{◌≡◌, ◌∙◌, ℕ, Bool, true, false, true≢false, not, ◌||◌, ◌⊎◌, inl, inr, List, [], ◌∷◌, eqb, if◌then◌else◌, ap, refl, subst, sym, ⊎_elim, arith}
use Rattle.std.proofs.lemmas.Bool.{eqb-true}
use Rattle.std.specs.Prelude.{Some, None}
use Rattle.bunch.specs.Names.{holds}
use Rattle.bunch.proofs.Tests.{and_first, and_second, or_split}
use Rattle.core_term.specs.CoreTerm.{CoreBody}
use Rattle.core_term.specs.FreeNames.{without}
use Rattle.core_term.specs.Typing.{Context}
use Rattle.core_term.proofs.Sides.{eqb-same}
use Rattle.delta_state.specs.StateTree.{StateTree, ArgumentTrees, sink, var_state, no_arguments, argument_before, argument_at, free_in_state}
use Rattle.delta_state.specs.StateTyping.{context_of_arguments}
use Rattle.state_rewriting.specs.Rewriting.{is_plain, are_plain, names_passed, at_most_once, stand_once, composed, without_argument}
use Rattle.state_rewriting.proofs.OtherNames.{apart_from}
use Rattle.state_rewriting.proofs.ArgumentsLeftOut.{names_without, marks_without, at_without}
use Rattle.state_rewriting.proofs.FramesJoined.{composed_names, composed_marks, composed_at, plain_at, passed_before}
use Rattle.state_bounds.specs.Bounds.{Bound, both, ◌⊑◌, total}
use Rattle.state_bounds.specs.StateBounds.{state_bound, argument_bounds}
use Rattle.state_bounds.proofs.BoundOrder.{at_most_same, at_most_next, both_at_most, nothing_at_most, beside_nothing, total_at_most}
use Rattle.state_bounds.proofs.StatesWithMoreFacts.{Roomy}
use Rattle.bounds_kept.proofs.CappedBounds.{beside_left, beside_right, total_capped, state_capped, arguments_capped}
use Rattle.bounds_kept.proofs.LowerParts.{roomy_body}

-- a body that doesn't use u has no fewer facts without them
pub roomy_without : (u : ℕ) (args : ArgumentTrees) (c : Context) (xs : List ℕ) → holds u xs ≡ false → Roomy xs (context_of_arguments c args) (context_of_arguments c (without_argument u args))
roomy_without u args c xs n =
    roomy_body xs args (without_argument u args) c c (λ y m. marks_without u args y (other y m)) (λ y m. names_without u args y (other y m))
    (λ y z m o h v w i j. h v w (ap (λ s. holds v (free_in_state s)) (at_without u args y (other y m)) ∙ i) (ap (λ s. holds w (free_in_state s)) (at_without u args z (other z o)) ∙ j))
  where
    other : (y : ℕ) → holds y xs ≡ true → eqb y u ≡ false
    other y m = apart_from u y xs n m

-- so the inner body has no fewer facts in the one call
pub roomy_composed : (args inner : ArgumentTrees) (c : Context) (xs : List ℕ) → are_plain inner ≡ true → Roomy xs (context_of_arguments (context_of_arguments c args) inner) (context_of_arguments c (composed args inner))
roomy_composed args inner c xs p =
    roomy_body xs inner (composed args inner) (context_of_arguments c args) c (λ u m. sym (ap (λ f. f u) (composed_marks args inner))) (λ u m. sym (ap (λ ns. holds u ns) (composed_names args inner)))
    (λ u v m n h x y i j. passed_before args c (argument_at inner u) (argument_at inner v) (plain_at inner u p) (plain_at inner v p) h x y (sym (ap (λ s. holds x (free_in_state s)) (composed_at args inner u)) ∙ i)
    (sym (ap (λ s. holds y (free_in_state s)) (composed_at args inner v)) ∙ j))

-- two bounds beside a third one, in the other order
both_swap : (a b k : Bound) → both a (both k b) ⊑ both k (both a b)
both_swap None b None = tt
both_swap None b (Some k) = tt
both_swap (Some a) b None = tt
both_swap (Some a) None (Some k) = tt
both_swap (Some a) (Some b) (Some k) = omega arith

module _ (x : ℕ) (k : Bound) (g : ℕ → Bound) where
  -- x has the bound k, the others have their own
  abbrev with_one : ℕ → Bound
  with_one u = if eqb u x then k else g u

  -- where x isn't in the list, the bounds are those of the others,
  none_counted : (us : List ℕ) → holds x us ≡ false → total with_one us ⊑ total g (without x us)
  none_counted [] n = at_most_same (Some 0)
  none_counted (u ∷ us) n = go (eqb u x) refl (none_counted us)
    where
      rest : (c : Bool) → (c || holds x us) ≡ false → holds x us ≡ false
      rest true m = absurd (true≢false m)
      rest false m = m

      go : (b : Bool) → eqb u x ≡ b → (holds x us ≡ false → total with_one us ⊑ total g (without x us)) → both (if b then k else g u) (total with_one us) ⊑ total g (if b then without x us else u ∷ without x us)
      go true e f = absurd (true≢false (sym (ap (λ c. c || holds x us) (ap (λ w. eqb x w) (eqb-true u x e) ∙ eqb-same x)) ∙ n))
      go false e f = both_at_most _ _ _ _ (at_most_same (g u)) (f (rest (eqb x u) n))

  -- and so they are where the bound of x is nothing
  nothing_counted : (us : List ℕ) → k ≡ Some 0 → total with_one us ⊑ total g (without x us)
  nothing_counted [] n = at_most_same (Some 0)
  nothing_counted (u ∷ us) n = go (eqb u x) (nothing_counted us n)
    where
      go : (b : Bool) → total with_one us ⊑ total g (without x us) → both (if b then k else g u) (total with_one us) ⊑ total g (if b then without x us else u ∷ without x us)
      go true f = subst (λ q. both q (total with_one us) ⊑ total g (without x us)) (sym n) (beside_nothing (total with_one us) (total g (without x us)) f)
      go false f = both_at_most _ _ _ _ (at_most_same (g u)) f

  -- where x is in the list once at most, its bound counts once at most
  once_counted : (us : List ℕ) → at_most_once x us ≡ true → total with_one us ⊑ both k (total g (without x us))
  once_counted [] m = nothing_at_most (both k (Some 0))
  once_counted (u ∷ us) m = go (eqb u x) m (once_counted us)
    where
      is_not : (b : Bool) → not b ≡ true → b ≡ false
      is_not false h = refl
      is_not true h = absurd (true≢false (sym h))

      go : (b : Bool) → (if b then not (holds x us) else at_most_once x us) ≡ true → (at_most_once x us ≡ true → total with_one us ⊑ both k (total g (without x us)))
          → both (if b then k else g u) (total with_one us) ⊑ both k (total g (if b then without x us else u ∷ without x us))
      go true n f = both_at_most _ _ _ _ (at_most_same k) (none_counted us (is_not (holds x us) n))
      go false n f = at_most_next _ _ _ (both_at_most _ _ _ _ (at_most_same (g u)) (f n)) (both_swap (g u) (total g (without x us)) k)

  -- so in both cases
  pub one_counted : (us : List ℕ) → (k ≡ Some 0) ⊎ (at_most_once x us ≡ true) → total with_one us ⊑ both k (total g (without x us))
  one_counted us (inl e) = at_most_next _ _ _ (nothing_counted us e) (beside_right k (total g (without x us)) (total_capped g (without x us)))
  one_counted us (inr m) = once_counted us m

module _ (funs : List CoreBody) (numbers : ℕ → Bound) where
  -- fewer arguments can hold no more
  pub fewer_at_most : (u : ℕ) (args : ArgumentTrees) (c : Context) → argument_bounds funs numbers (without_argument u args) c ⊑ argument_bounds funs numbers args c
  fewer_at_most u no_arguments c = at_most_same (Some 0)
  fewer_at_most u (argument_before x t s args) c = go (eqb x u) (fewer_at_most u args c)
    where
      go : (b : Bool) → argument_bounds funs numbers (without_argument u args) c ⊑ argument_bounds funs numbers args c
          → argument_bounds funs numbers (if b then without_argument u args else argument_before x t s (without_argument u args)) c ⊑ both (state_bound funs numbers s c) (argument_bounds funs numbers args c)
      go true h = at_most_next _ _ _ h (beside_right (state_bound funs numbers s c) (argument_bounds funs numbers args c) (arguments_capped funs numbers args c))
      go false h = both_at_most _ _ _ _ (at_most_same (state_bound funs numbers s c)) h

  -- and what stands as the argument of a parameter can hold no more than all arguments
  pub argument_at_most : (args : ArgumentTrees) (u : ℕ) (c : Context) → state_bound funs numbers (argument_at args u) c ⊑ argument_bounds funs numbers args c
  argument_at_most no_arguments u c = at_most_same (Some 0)
  argument_at_most (argument_before x t s args) u c = go (eqb u x) (argument_at_most args u c)
    where
      go : (b : Bool) → state_bound funs numbers (argument_at args u) c ⊑ argument_bounds funs numbers args c
          → state_bound funs numbers (if b then s else argument_at args u) c ⊑ both (state_bound funs numbers s c) (argument_bounds funs numbers args c)
      go true h = beside_left (state_bound funs numbers s c) (argument_bounds funs numbers args c) (state_capped funs numbers s c)
      go false h = at_most_next _ _ _ h (beside_right (state_bound funs numbers s c) (argument_bounds funs numbers args c) (arguments_capped funs numbers args c))

  -- a name and what is finished hold nothing
  plain_nothing : (s : StateTree) (c : Context) → is_plain s ≡ true → state_bound funs numbers s c ≡ Some 0
  plain_nothing (sink t) c p = refl
  plain_nothing (var_state x) c p = refl
  plain_nothing _ c p = absurd (true≢false (sym p))

  -- what the argument of a parameter can hold
  abbrev bound_at : ArgumentTrees → Context → ℕ → Bound
  bound_at args c u = state_bound funs numbers (argument_at args u) c

  -- composed arguments can hold what is passed on,
  composed_counted : (args inner : ArgumentTrees) (c : Context) → are_plain inner ≡ true → argument_bounds funs numbers (composed args inner) c ⊑ total (bound_at args c) (names_passed inner)
  composed_counted args no_arguments c p = at_most_same (Some 0)
  composed_counted args (argument_before x t (sink q) inner) c p = beside_nothing _ _ (composed_counted args inner c p)
  composed_counted args (argument_before x t (var_state u) inner) c p = both_at_most _ _ _ _ (at_most_same (bound_at args c u)) (composed_counted args inner c p)
  composed_counted args (argument_before x t _ inner) c p = absurd (true≢false (sym p))

  -- of no arguments nothing is passed on
  none_passed : (c : Context) (us : List ℕ) → total (bound_at no_arguments c) us ⊑ Some 0
  none_passed c [] = at_most_same (Some 0)
  none_passed c (u ∷ us) = beside_nothing (total (bound_at no_arguments c) us) (Some 0) (none_passed c us)

  -- and what is passed on is at most what all arguments can hold, where each that may hold something is passed
  -- on once at most
  shares : (args : ArgumentTrees) (c : Context) (us : List ℕ) → stand_once args us ≡ true → total (bound_at args c) us ⊑ argument_bounds funs numbers args c
  shares no_arguments c us o = none_passed c us
  shares (argument_before x t s args) c us o =
      let split = or_split (is_plain s) (at_most_once x us) (and_first (is_plain s || at_most_once x us) (stand_once args (without x us)) o) in
      at_most_next _ _ _ (at_most_next _ _ _ (by_names us) (one_counted x (state_bound funs numbers s c) (bound_at args c) us (⊎_elim (λ p. inl (plain_nothing s c p)) (λ m. inr m) split)))
      (both_at_most _ _ _ _ (at_most_same (state_bound funs numbers s c)) (shares args c (without x us) (and_second (is_plain s || at_most_once x us) (stand_once args (without x us)) o)))
    where
      at : (u : ℕ) (b : Bool) → state_bound funs numbers (if b then s else argument_at args u) c ⊑ (if b then state_bound funs numbers s c else bound_at args c u)
      at u true = at_most_same (state_bound funs numbers s c)
      at u false = at_most_same (bound_at args c u)

      by_names : (us : List ℕ) → total (bound_at (argument_before x t s args) c) us ⊑ total (with_one x (state_bound funs numbers s c) (bound_at args c)) us
      by_names us = total_at_most (bound_at (argument_before x t s args) c) (with_one x (state_bound funs numbers s c) (bound_at args c)) us (λ u m. at u (eqb u x))

  -- so the arguments of the one call can hold no more than those of the outer one
  pub composed_at_most : (args inner : ArgumentTrees) (c : Context) → are_plain inner ≡ true → stand_once args (names_passed inner) ≡ true → argument_bounds funs numbers (composed args inner) c ⊑ argument_bounds funs numbers args c
  composed_at_most args inner c p o = at_most_next _ _ _ (composed_counted args inner c p) (shares args c (names_passed inner) o)
