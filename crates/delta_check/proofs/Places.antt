-- Places in two lists, one after the other.
use Rattle.std.proofs.Common.{◌≡◌, ℕ, zero, suc, arith, ◌+◌, List, [], ◌∷◌, ◌++◌, length, ap}
use Rattle.std.specs.Prelude.{Some, slice_get}

-- a place of the first list
pub at_first : {A : Type 0} (xs ys : List A) (i : ℕ) (a : A) → slice_get xs i ≡ Some a → slice_get (xs ++ ys) i ≡ Some a
at_first [] ys i a h = absurd (cc h)
at_first (x ∷ xs) ys zero a h = h
at_first (x ∷ xs) ys (suc i) a h = at_first xs ys i a h

-- a place of the second, counted from its start
pub at_second : {A : Type 0} (xs ys : List A) (i j : ℕ) → j + length xs ≡ i → slice_get (xs ++ ys) i ≡ slice_get ys j
at_second [] ys i j h = ap (slice_get ys) (omega arith)
at_second (x ∷ xs) ys zero j h = absurd (omega arith)
at_second (x ∷ xs) ys (suc i) j h = at_second xs ys i j (omega arith)

pub ruleset places = (at_first, at_second)
