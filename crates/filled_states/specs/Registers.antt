-- Registers: numbers, or depths, that stand beside keys. A key of a shape has the number beside it.
--
-- Choices that are not obvious:
-- - What is no key has the first number. So whatever is done to all numbers is done to what is found, be it a key or
--   not, and no law has to ask which numbers a shape has.
-- - Where there are no numbers each key is its own, so that a shape filled with none is itself.
use Rattle.std.specs.Prelude.{ℕ, ℤ, Bool, true, false, not, ◌&&◌, ◌||◌, ◌==◌, if◌then◌else◌, List, [], ◌∷◌}
use Rattle.std.specs.Ordering.{int_eq}

-- the number beside the first key that is n, or d
abbrev pub number_or : ℤ → List ℤ → List ℤ → ℤ → ℤ
number_or d (k ∷ ks) (v ∷ vs) n = if int_eq k n then v else number_or d ks vs n
number_or d _ _ n = d

-- the number of a key
abbrev pub number_at : List ℤ → List ℤ → ℤ → ℤ
number_at ks [] n = n
number_at ks (v ∷ vs) n = number_or v ks (v ∷ vs) n

-- whether n is one of these keys
abbrev pub is_key : ℤ → List ℤ → Bool
is_key n [] = false
is_key n (k ∷ ks) = int_eq k n || is_key n ks

-- whether no key stands twice; of depths `is_distinct` says it, as of names
abbrev pub are_distinct : List ℤ → Bool
are_distinct [] = true
are_distinct (k ∷ ks) = not (is_key k ks) && are_distinct ks

-- the depth beside the first key that is n, or d
abbrev pub depth_or : ℕ → List ℕ → List ℕ → ℕ → ℕ
depth_or d (k ∷ ks) (v ∷ vs) n = if k == n then v else depth_or d ks vs n
depth_or d _ _ n = d

-- the depth of a key
abbrev pub depth_at : List ℕ → List ℕ → ℕ → ℕ
depth_at ks [] n = n
depth_at ks (v ∷ vs) n = depth_or v ks (v ∷ vs) n
