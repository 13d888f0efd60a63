-- The tree form of agreement and its order form are the same.
use Rattle.std.proofs.Common.{◌≡◌, ◌∙◌, ℕ, List, true, true≢false, ◌&&◌, ◌||◌, ◌⊎◌, inl, inr, ⊎_elim, ap, ap₂, sym}
use Rattle.std.specs.Prelude.{IsTrue}
use Rattle.std.proofs.lemmas.Bool.{or_left, or_right}
use Rattle.stream_prefix.specs.StreamPrefix.{emp, is_maximal}
use Rattle.bunch.specs.Names.{holds}
use Rattle.bunch.specs.BunchTree.{BunchTree, empty, leaf, comma, semi, leaf_names, stands_before, AreApart, IsDistinct}
use Rattle.bunch.proofs.Bunches.{second_is_there}
use Rattle.bunch.proofs.Tests.{and_first, and_second, or_split}
use Rattle.core_term.specs.Environment.{Environment, NameTypes, by_side, IsWholeOn, IsEmptyOn}
use Rattle.core_term.specs.Agreement.{types_in, AgreesInTree, Agrees}
use Rattle.core_term.specs.Laws.{TreeFormIsOrderForm}
use Rattle.core_term.proofs.Sides.{each, turn, by_left, by_right}

-- agreement at two names
abbrev pub AgreesAt : NameTypes → Environment → ℕ → ℕ → Type 0
AgreesAt types env x y = IsTrue (is_maximal (env x)) ⊎ (env y ≡ emp (types y))

-- the same at equal types
pub agrees_at : (types others : NameTypes) (env : Environment) (x y : ℕ) → types y ≡ others y → AgreesAt types env x y → AgreesAt others env x y
agrees_at types others env x y e h = ⊎_elim (λ m. inl m) (λ k. inr (k ∙ ap emp e)) h

-- where names agree with others, all of the first are whole, or nothing has come on any of the others
pub whole_or_empty : (types : NameTypes) (env : Environment) (xs ys : List ℕ) → ((x y : ℕ) → holds x xs ≡ true → holds y ys ≡ true → AgreesAt types env x y) → IsWholeOn xs env ⊎ IsEmptyOn ys types env
whole_or_empty types env xs ys h =
    each (λ x. IsTrue (is_maximal (env x))) xs (λ x l. turn (each (λ y. env y ≡ emp (types y)) ys (λ y r. turn (h x y l r))))

module _ (a b : BunchTree) (apart : AreApart (leaf_names a) (leaf_names b)) (env : Environment) where
  -- the types of two sides
  abbrev Both : NameTypes
  Both = by_side (leaf_names a) (types_in a) (types_in b)

  -- what agrees with both sides agrees at two names of one side
  within : Agrees (types_in a) (stands_before a) env → Agrees (types_in b) (stands_before b) env → (x y : ℕ) → (stands_before a x y ≡ true) ⊎ (stands_before b x y ≡ true) → AgreesAt Both env x y
  within h k x y (inl o) = agrees_at (types_in a) Both env x y (sym (by_left (leaf_names a) (types_in a) (types_in b) y (second_is_there a x y o))) (h x y o)
  within h k x y (inr o) = agrees_at (types_in b) Both env x y (sym (by_right (leaf_names a) (types_in a) (types_in b) y (apart y (second_is_there b x y o)))) (k x y o)

  -- and at names of two sides of a semicolon
  across : IsWholeOn (leaf_names a) env ⊎ IsEmptyOn (leaf_names b) (types_in b) env → (x y : ℕ) → holds x (leaf_names a) ≡ true → holds y (leaf_names b) ≡ true → AgreesAt Both env x y
  across h x y l r = ⊎_elim (λ w. inl (w x l)) (λ e. inr (e y r ∙ ap emp (sym (by_right (leaf_names a) (types_in a) (types_in b) y (apart y r))))) h

  -- what agrees with both agrees with the left side
  left_agrees : ((x y : ℕ) → stands_before a x y ≡ true → AgreesAt Both env x y) → Agrees (types_in a) (stands_before a) env
  left_agrees h x y o = agrees_at Both (types_in a) env x y (by_left (leaf_names a) (types_in a) (types_in b) y (second_is_there a x y o)) (h x y o)

  -- and with the right side
  right_agrees : ((x y : ℕ) → stands_before b x y ≡ true → AgreesAt Both env x y) → Agrees (types_in b) (stands_before b) env
  right_agrees h x y o = agrees_at Both (types_in b) env x y (by_right (leaf_names a) (types_in a) (types_in b) y (apart y (second_is_there b x y o))) (h x y o)

  -- and all on the left of a semicolon is whole, or nothing on its right has come
  sides_agree : ((x y : ℕ) → holds x (leaf_names a) ≡ true → holds y (leaf_names b) ≡ true → AgreesAt Both env x y) → IsWholeOn (leaf_names a) env ⊎ IsEmptyOn (leaf_names b) (types_in b) env
  sides_agree h =
      whole_or_empty (types_in b) env (leaf_names a) (leaf_names b)
      (λ x y l r. agrees_at Both (types_in b) env x y (by_right (leaf_names a) (types_in a) (types_in b) y (apart y r)) (h x y l r))

-- from the tree to the order
pub order_of_tree : (b : BunchTree) → IsDistinct b → (env : Environment) → AgreesInTree b env → Agrees (types_in b) (stands_before b) env
order_of_tree empty d env h x y o = absurd (true≢false (sym o))
order_of_tree (leaf z t) d env h x y o = absurd (true≢false (sym o))
order_of_tree (comma a b) d env h x y o =
    within a b d.2 env (order_of_tree a d.0 env h.0) (order_of_tree b d.1 env h.1) x y (or_split (stands_before a x y) (stands_before b x y) o)
order_of_tree (semi a b) d env h x y o =
    ⊎_elim (λ s. across a b d.2 env h.2 x y (and_first (holds x (leaf_names a)) (holds y (leaf_names b)) s) (and_second (holds x (leaf_names a)) (holds y (leaf_names b)) s))
    (λ s. within a b d.2 env (order_of_tree a d.0 env h.0) (order_of_tree b d.1 env h.1) x y (or_split (stands_before a x y) (stands_before b x y) s))
    (or_split (holds x (leaf_names a) && holds y (leaf_names b)) (stands_before a x y || stands_before b x y) o)

-- and back
pub tree_of_order : (b : BunchTree) → IsDistinct b → (env : Environment) → Agrees (types_in b) (stands_before b) env → AgreesInTree b env
tree_of_order empty d env h = tt
tree_of_order (leaf z t) d env h = tt
tree_of_order (comma a b) d env h = (
  tree_of_order a d.0 env (left_agrees a b d.2 env (λ x y o. h x y (or_left (stands_before a x y) (stands_before b x y) o))),
  tree_of_order b d.1 env (right_agrees a b d.2 env (λ x y o. h x y (or_right (stands_before a x y) (stands_before b x y) o))),
)
tree_of_order (semi a b) d env h = (
  tree_of_order a d.0 env (left_agrees a b d.2 env (λ x y o. h x y (inside x y (or_left (stands_before a x y) (stands_before b x y) o)))),
  tree_of_order b d.1 env (right_agrees a b d.2 env (λ x y o. h x y (inside x y (or_right (stands_before a x y) (stands_before b x y) o)))),
  sides_agree a b d.2 env (λ x y l r. h x y (or_left (holds x (leaf_names a) && holds y (leaf_names b)) (stands_before a x y || stands_before b x y) (ap₂ ◌&&◌ l r))),
)
  where
    inside : (x y : ℕ) → (stands_before a x y || stands_before b x y) ≡ true → stands_before (semi a b) x y ≡ true
    inside x y o = or_right (holds x (leaf_names a) && holds y (leaf_names b)) (stands_before a x y || stands_before b x y) o

pub tree_form_is_order_form : TreeFormIsOrderForm
tree_form_is_order_form b d env = (order_of_tree b d env, tree_of_order b d env)
