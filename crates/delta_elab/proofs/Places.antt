-- What stands at a place.
use Rattle.std.proofs.Common.{◌≡◌, ℕ, zero, suc, arith, ◌+◌, List, [], ◌∷◌, length, refl}
use Rattle.std.specs.Prelude.{Some, slice_get, slice_index_or}

-- what stands at a place
pub turn_at : {A : Type 0} (xs : List A) (i : ℕ) (a d : A) → slice_get xs i ≡ Some a → slice_index_or xs i d ≡ a
turn_at [] i a d h = absurd (cc h)
turn_at (x ∷ xs) zero a d h = cc h
turn_at (x ∷ xs) (suc i) a d h = turn_at xs i a d h

-- and what counts past the last
pub turn_past : {A : Type 0} (xs : List A) (i j : ℕ) (d : A) → j + length xs ≡ i → slice_index_or xs i d ≡ d
turn_past [] i j d h = refl
turn_past (x ∷ xs) zero j d h = absurd (omega arith)
turn_past (x ∷ xs) (suc i) j d h = turn_past xs i j d (omega arith)

pub ruleset turns = (turn_at, turn_past)
