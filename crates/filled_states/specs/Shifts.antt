-- Depths that were learned far apart, and the depths that are there now in their place.
--
-- A step is learned at depths of which each is more than m above the next. What it leaves has depths that are less, by m
-- at most, so that each tells from which it came; and what stands there now is as much less than what stands for that.
use Rattle.std.specs.Prelude.{ℕ, zero, suc, ◌+◌, ◌-◌, ◌<◌, leb, ◌&&◌, ⊤, if◌then◌else◌, List, [], ◌∷◌}

-- b is more than m above the first of the list
abbrev pub IsAbove : ℕ → ℕ → List ℕ → Type 0
IsAbove m b [] = ⊤
IsAbove m b (c ∷ bs) = c + m < b

-- each is more than m above the next
abbrev pub AreSpread : ℕ → List ℕ → Type 0
AreSpread m [] = ⊤
AreSpread m (b ∷ bs) = IsAbove m b bs × AreSpread m bs

-- n such depths, from the first down
abbrev pub spread_from : ℕ → ℕ → ℕ → List ℕ
spread_from m b zero = []
spread_from m b (suc n) = b ∷ spread_from m (b - (m + 1)) n

-- in the place of a depth that is j below one of the depths bs, with j at most m, what is j below the one beside it
abbrev pub shift : List ℕ → List ℕ → ℕ → ℕ → ℕ
shift (b ∷ bs) (e ∷ es) m d = if leb d b && leb b (d + m) then e - (b - d) else shift bs es m d
shift _ _ m d = d
