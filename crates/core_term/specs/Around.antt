-- The names that are bound around a part of a term, as the program keeps them, and a list less these.
use Rattle.std.specs.Prelude.{ℕ, List, [], ◌∷◌}
use Rattle.core_term.specs.declared.around.Around.{Around}
use Rattle.core_term.specs.declared.around.Around.TheVariants.{Nothing, Name'}
use Rattle.core_term.specs.FreeNames.{without}

-- the names, the last bound in front
abbrev pub names_around : Around → List ℕ
names_around Nothing = []
names_around (Name' x r outer) = x.0 ∷ names_around outer

-- the second list less the names of the first
abbrev pub less : List ℕ → List ℕ → List ℕ
less [] xs = xs
less (y ∷ ys) xs = less ys (without y xs)
