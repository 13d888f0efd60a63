-- Names as numbers, lists of names and what stands beside each of them, and what stands at each name.
use Rattle.std.specs.Prelude.{ℕ, suc, ◌==◌, Bool, false, ◌||◌, List, [], ◌∷◌, if◌then◌else◌, map}
use Rattle.bunch.specs.declared.name.Name.{Name}

-- the number of a name
abbrev pub number_of : Name → ℕ
number_of x = x.0

-- the numbers of the names, in turn
abbrev pub numbers_of : List Name → List ℕ
numbers_of xs = map number_of xs

-- whether a name is in the list
abbrev pub holds : ℕ → List ℕ → Bool
holds x [] = false
holds x (y ∷ ys) = (x == y) || holds x ys

-- the index of a name's first place in the list, or the list's length where the name isn't there
abbrev pub place_in : ℕ → List ℕ → ℕ
place_in x [] = 0
place_in x (y ∷ ys) = if x == y then 0 else suc (place_in x ys)

-- of the values that stand beside names, in turn, the one at a name's first place, or else d
abbrev pub value_at : {A : Type 0} → A → List ℕ → List A → ℕ → A
value_at d [] vs x = d
value_at d (y ∷ ys) [] x = d
value_at d (y ∷ ys) (v ∷ vs) x = if x == y then v else value_at d ys vs x

-- a at the name x, and at each other name what g has there; what g has at x is hidden
abbrev pub put : {A : Type 0} → ℕ → A → (ℕ → A) → ℕ → A
put x a g y = if y == x then a else g y
