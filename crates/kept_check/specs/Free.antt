-- Lists of names that have the same names, however often.
use Rattle.std.specs.Prelude.{ℕ, ◌≡◌, List, [], ◌∷◌}
use Rattle.bunch.specs.declared.name.Name.{Name}
use Rattle.bunch.specs.Names.{numbers_of, holds}
use Rattle.core_term.specs.FreeNames.{without}

-- the list has these names and no other, each once or more often
abbrev pub HasNames : List Name → List ℕ → Type 0
HasNames names xs = (x : ℕ) → holds x (numbers_of names) ≡ holds x xs

-- a list less each name of another, the last of them first
abbrev pub without_all : List ℕ → List ℕ → List ℕ
without_all [] zs = zs
without_all (x ∷ xs) zs = without x (without_all xs zs)
