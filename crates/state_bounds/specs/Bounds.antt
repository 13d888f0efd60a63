-- Bounds: numbers of events at most, and how many events a type can ever have.
--
-- Choices that are not obvious:
-- - A bound is a number, or `None` where there is none. `None` is above every number.
-- - Sums stop at a limit. So a sum that a cycle of calls makes ever larger comes to rest, and a bound as large
--   as the limit says nothing.
-- - The mark between the parts of a sequence is an event, and so is the side of a sum.
use Rattle.std.specs.Prelude.{ℕ, ◌+◌, ◌≤◌, min, max, List, [], ◌∷◌, Option, Some, None, ⊤}
use Rattle.stream_type.specs.StreamType.{StreamType, eps, one, int, cat, par, sum, star}

infix 20 ◌⊑◌
-- so many events at most, or no bound
abbrev pub Bound : Type 0
Bound = Option ℕ

-- where sums stop
abbrev pub limit : ℕ
limit = 1000000000000000000

-- two bounds together
abbrev pub both : Bound → Bound → Bound
both (Some m) (Some n) = Some (min (m + n) limit)
both (Some m) None = None
both None b = None

-- the greater of two bounds
abbrev pub greater : Bound → Bound → Bound
greater (Some m) (Some n) = Some (max m n)
greater (Some m) None = None
greater None b = None

-- the first bound is at most the second
abbrev pub ◌⊑◌ : Bound → Bound → Type 0
a ⊑ None = ⊤
None ⊑ Some n = ⊥
Some m ⊑ Some n = m ≤ n

-- how many events a stream of this type can have at most: a star's has no such number
abbrev pub size_of : StreamType → Bound
size_of eps = Some 0
size_of one = Some 1
size_of int = Some 1
size_of (par s t) = both (size_of s) (size_of t)
size_of (cat s t) = both (both (size_of s) (size_of t)) (Some 1)
size_of (sum s t) = both (Some 1) (greater (size_of s) (size_of t))
size_of (star s) = None

-- the bounds of these names together
abbrev pub total : (ℕ → Bound) → List ℕ → Bound
total f [] = Some 0
total f (x ∷ xs) = both (f x) (total f xs)
