-- Tests of truth values, and what they say.
use Rattle.std.proofs.Common.{◌≡◌, ℕ, ◌<◌, Bool, true, false, ◌⊎◌, inl, inr, ◌||◌, ◌&&◌, refl, cond, nat_lt, arith}

pub or_true : (a b : Bool) → (a ≡ true) ⊎ (b ≡ true) → (a || b) ≡ true
or_true a b (inl e) = rw e refl
or_true true b (inr e) = refl
or_true false b (inr e) = e

abbrev pub implied : Bool → Bool → Bool
implied true b = b
implied false b = true

pub implied_is : (a b : Bool) → implied a b ≡ true → a ≡ true → b ≡ true
implied_is true b e h = e
implied_is false b e h = cc

pub last_false : (a b : Bool) → (a && b) ≡ false → b ≡ true → a ≡ false
last_false true b e h = cc
last_false false b e h = refl

pub either_way : (n a b : Bool) → a ≡ true → cond n (a || b) a ≡ true
either_way true a b e = rw e refl
either_way false a b e = e

pub cond_true : (c : Bool) → cond c true true ≡ true
cond_true true = refl
cond_true false = refl

pub lt_of : (a b : ℕ) → nat_lt a b ≡ true → a < b
lt_of a b e = grind arith
