-- States that are mapped twice, or to themselves; and the code of a state that is mapped.
use Rattle.std.proofs.Common.{◌≡◌, ◌∙◌, List, [], ◌∷◌, ◌++◌, map, ap, ap₂, refl, sym}
use Rattle.std.proofs.lemmas.List.{map-append}
use Rattle.delta_state.specs.StateTree.{HeldName, LaterTree, StateTree, ArgumentTrees, par_state, cat_state, let_state, let_par_state, let_cat_state, frame_state, no_arguments, argument_before, laters_of, laters_in}
use Rattle.mapped_states.specs.Mapped.{mapped, mapped_arguments}

-- by f and g, after h and k
module _ (f h : LaterTree → LaterTree) (g k : List HeldName → List HeldName) where
  mutual
    pub mapped_twice : (s : StateTree) → mapped f g (mapped h k s) ≡ mapped (λ l. f (h l)) (λ held. g (k held)) s
    mapped_twice (par_state a b) = ap₂ par_state (mapped_twice a) (mapped_twice b)
    mapped_twice (cat_state a l) = ap (λ b. cat_state b (f (h l))) (mapped_twice a)
    mapped_twice (let_state x s a b) = ap₂ (let_state x s) (mapped_twice a) (mapped_twice b)
    mapped_twice (let_par_state x y z a) = ap (let_par_state x y z) (mapped_twice a)
    mapped_twice (let_cat_state x y z a) = ap (let_cat_state x y z) (mapped_twice a)
    mapped_twice (frame_state args s) = ap₂ frame_state (arguments_twice args) (mapped_twice s)
    mapped_twice _ = refl

    arguments_twice : (args : ArgumentTrees) → mapped_arguments f g (mapped_arguments h k args) ≡ mapped_arguments (λ l. f (h l)) (λ held. g (k held)) args
    arguments_twice no_arguments = refl
    arguments_twice (argument_before x t s args) = ap₂ (argument_before x t) (mapped_twice s) (arguments_twice args)

-- by what leaves all as it is
mutual
  pub mapped_same : (s : StateTree) → mapped (λ l. l) (λ held. held) s ≡ s
  mapped_same (par_state a b) = ap₂ par_state (mapped_same a) (mapped_same b)
  mapped_same (cat_state a l) = ap (λ b. cat_state b l) (mapped_same a)
  mapped_same (let_state x s a b) = ap₂ (let_state x s) (mapped_same a) (mapped_same b)
  mapped_same (let_par_state x y z a) = ap (let_par_state x y z) (mapped_same a)
  mapped_same (let_cat_state x y z a) = ap (let_cat_state x y z) (mapped_same a)
  mapped_same (frame_state args s) = ap₂ frame_state (arguments_same args) (mapped_same s)
  mapped_same _ = refl

  arguments_same : (args : ArgumentTrees) → mapped_arguments (λ l. l) (λ held. held) args ≡ args
  arguments_same no_arguments = refl
  arguments_same (argument_before x t s args) = ap₂ (argument_before x t) (mapped_same s) (arguments_same args)

module _ (f : LaterTree → LaterTree) (g : List HeldName → List HeldName) where
  joined : (xs ys xs' ys' : List LaterTree) → xs' ≡ map f xs → ys' ≡ map f ys → xs' ++ ys' ≡ map f (xs ++ ys)
  joined xs ys xs' ys' e h = ap₂ ◌++◌ e h ∙ sym (map-append f xs ys)

  mutual
    -- the code that isn't reached is the same, each mapped
    pub laters_mapped : (s : StateTree) → laters_of (mapped f g s) ≡ map f (laters_of s)
    laters_mapped (par_state a b) = joined (laters_of a) (laters_of b) _ _ (laters_mapped a) (laters_mapped b)
    laters_mapped (cat_state a l) = joined (laters_of a) (l ∷ []) _ _ (laters_mapped a) refl
    laters_mapped (let_state x s a b) = joined (laters_of a) (laters_of b) _ _ (laters_mapped a) (laters_mapped b)
    laters_mapped (let_par_state x y z a) = laters_mapped a
    laters_mapped (let_cat_state x y z a) = laters_mapped a
    laters_mapped (frame_state args s) = joined (laters_in args) (laters_of s) _ _ (laters_in_mapped args) (laters_mapped s)
    laters_mapped _ = refl

    laters_in_mapped : (args : ArgumentTrees) → laters_in (mapped_arguments f g args) ≡ map f (laters_in args)
    laters_in_mapped no_arguments = refl
    laters_in_mapped (argument_before x t s args) = joined (laters_of s) (laters_in args) _ _ (laters_mapped s) (laters_in_mapped args)
