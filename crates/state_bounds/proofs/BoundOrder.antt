-- Bounds are ordered, and sums and the greater of two keep the order.
use Rattle.std.proofs.Common.{◌≡◌, ℕ, true, List, [], ◌∷◌, arith}
use Rattle.std.specs.Prelude.{Some, None}
use Rattle.bunch.specs.Names.{holds}
use Rattle.core_term.proofs.Sides.{holds-head}
use Rattle.core_term.proofs.Without.{holds-tail}
use Rattle.state_bounds.specs.Bounds.{Bound, both, greater, ◌⊑◌, total}

-- each bound is at most itself,
pub at_most_same : (a : Bound) → a ⊑ a
at_most_same None = tt
at_most_same (Some m) = omega arith

-- and at most what a bound is that it is at most
pub at_most_next : (a b c : Bound) → a ⊑ b → b ⊑ c → a ⊑ c
at_most_next a b None h k = tt
at_most_next a None (Some n) h k = absurd k
at_most_next None (Some m) (Some n) h k = absurd h
at_most_next (Some l) (Some m) (Some n) h k = omega (arith, h, k)

-- two bounds together are at most two others together, each of which is at most its own,
pub both_at_most : (a b c d : Bound) → a ⊑ c → b ⊑ d → both a b ⊑ both c d
both_at_most a b None d h k = tt
both_at_most a b (Some m) None h k = tt
both_at_most None b (Some m) (Some n) h k = absurd h
both_at_most (Some i) None (Some m) (Some n) h k = absurd k
both_at_most (Some i) (Some j) (Some m) (Some n) h k = omega (arith, h, k)

-- and so is the greater of them
pub greater_at_most : (a b c d : Bound) → a ⊑ c → b ⊑ d → greater a b ⊑ greater c d
greater_at_most a b None d h k = tt
greater_at_most a b (Some m) None h k = tt
greater_at_most None b (Some m) (Some n) h k = absurd h
greater_at_most (Some i) None (Some m) (Some n) h k = absurd k
greater_at_most (Some i) (Some j) (Some m) (Some n) h k = omega (arith, h, k)

-- what is at most the first of two bounds is at most the greater of them,
pub at_most_left : (a b c : Bound) → a ⊑ b → a ⊑ greater b c
at_most_left a None c h = tt
at_most_left a (Some m) None h = tt
at_most_left None (Some m) (Some n) h = absurd h
at_most_left (Some l) (Some m) (Some n) h = omega (arith, h)

-- and so is what is at most the second
pub at_most_right : (a b c : Bound) → a ⊑ c → a ⊑ greater b c
at_most_right a None c h = tt
at_most_right a (Some m) None h = tt
at_most_right None (Some m) (Some n) h = absurd h
at_most_right (Some l) (Some m) (Some n) h = omega (arith, h)

-- 0 is at most anything,
pub nothing_at_most : (a : Bound) → Some 0 ⊑ a
nothing_at_most None = tt
nothing_at_most (Some m) = omega arith

-- and beside a bound it adds nothing
pub beside_nothing : (a b : Bound) → a ⊑ b → both (Some 0) a ⊑ b
beside_nothing a None h = tt
beside_nothing None (Some n) h = absurd h
beside_nothing (Some m) (Some n) h = omega (arith, h)

-- bounds of the names of a list are together at most others that are no less, name by name
pub total_at_most : (f g : ℕ → Bound) (xs : List ℕ) → ((x : ℕ) → holds x xs ≡ true → f x ⊑ g x) → total f xs ⊑ total g xs
total_at_most f g [] h = omega arith
total_at_most f g (x ∷ xs) h = both_at_most (f x) (total f xs) (g x) (total g xs) (h x (holds-head x xs)) (total_at_most f g xs (λ y m. h y (holds-tail y x xs m)))
