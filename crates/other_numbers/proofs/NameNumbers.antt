-- What stands at names, with other numbers: what is bound, what stands beside names in a row, and the parts of a
-- program's input.
use Rattle.std.proofs.Common.{◌≡◌, ℕ, ℤ, Bool, true, false, List, [], ◌∷◌, map, eqb, if◌then◌else◌, refl, sym}
use Rattle.stream_prefix.specs.StreamPrefix.{StreamPrefix, par_both, cat_fst, cat_both}
use Rattle.bunch.specs.Names.{put, holds, value_at}
use Rattle.bunch.specs.BunchTree.{BunchTree, empty, leaf, comma, semi, leaf_names}
use Rattle.core_term.specs.Environment.{by_side, nothing, empty_at}
use Rattle.core_term.specs.Agreement.{types_in}
use Rattle.core_term.specs.Split.{split}
use Rattle.other_numbers.specs.Numbers.{exchanged}
use Rattle.other_numbers.proofs.PrefixNumbers.{emp_stays}

-- at each name the second has what g makes of what the first has
pub record Along {A : Type 0} (g : A → A) (p q : ℕ → A) : Type 0 where
  pub at : (x : ℕ) → q x ≡ g (p x)

-- as functions both are equal
pub along_same : {A : Type 0} (g : A → A) (p q : ℕ → A) → Along g p q → q ≡ (λ x. g (p x))
along_same g p q h = λ i x. h.at x i

-- one more name is bound
pub along_put : {A : Type 0} (g : A → A) (x : ℕ) (v w : A) (p q : ℕ → A) → w ≡ g v → Along g p q → Along g (put x v p) (put x w q)
along_put g x v w p q e h = record { at = λ y. go y (eqb y x) }
  where
    go : (y : ℕ) (b : Bool) → (if b then w else q y) ≡ g (if b then v else p y)
    go y true = e
    go y false = h.at y

-- what stands beside names
pub along_values : {A : Type 0} (g : A → A) (d : A) → d ≡ g d → (names : List ℕ) (vs : List A) → Along g (value_at d names vs) (value_at d names (map g vs))
along_values {A = A} g d e names vs = record { at = at names vs }
  where
    at : (names : List ℕ) (vs : List A) (x : ℕ) → value_at d names (map g vs) x ≡ g (value_at d names vs x)
    at [] vs x = e
    at (y ∷ ys) [] x = e
    at (y ∷ ys) (v ∷ vs) x = go (eqb x y) (at ys vs x)
      where
        go : (b : Bool) → value_at d ys (map g vs) x ≡ g (value_at d ys vs x) → (if b then g v else value_at d ys (map g vs) x) ≡ g (if b then v else value_at d ys vs x)
        go true h = refl
        go false h = h

-- of some names the first, of all others the second
along_sides : {A : Type 0} (g : A → A) (names : List ℕ) (p q r s : ℕ → A) → Along g p q → Along g r s → Along g (by_side names p r) (by_side names q s)
along_sides g names p q r s h k = record { at = λ x. go x (holds x names) }
  where
    go : (x : ℕ) (b : Bool) → (if b then q x else s x) ≡ g (if b then p x else r x)
    go x true = h.at x
    go x false = k.at x

module _ (f : ℤ → ℤ) where
  along_nothing : Along (exchanged f) nothing nothing
  along_nothing = record { at = λ x. refl }

  -- a program's input, at the names of its parameters
  pub along_split : (b : BunchTree) (p : StreamPrefix) → Along (exchanged f) (split b p) (split b (exchanged f p))
  along_split (leaf x t) p = along_put (exchanged f) x p (exchanged f p) nothing nothing refl along_nothing
  along_split (comma a b) (par_both p q) = along_sides (exchanged f) (leaf_names a) _ _ _ _ (along_split a p) (along_split b q)
  along_split (semi a b) (cat_fst p) =
      along_sides (exchanged f) (leaf_names a) (split a p) _ (empty_at (types_in b)) (empty_at (types_in b)) (along_split a p) (record { at = λ x. sym (emp_stays f (types_in b x)) })
  along_split (semi a b) (cat_both p q) = along_sides (exchanged f) (leaf_names a) _ _ _ _ (along_split a p) (along_split b q)
  along_split empty p = along_nothing
  along_split (comma a b) _ = along_nothing
  along_split (semi a b) _ = along_nothing
