-- The names that are bound around a part of a template.
use Rattle.std.specs.Prelude.{ℕ, List, [], ◌∷◌}
use Rattle.delta_code.specs.declared.around.Around.{Around}
use Rattle.delta_code.specs.declared.around.Around.TheVariants.{Nothing, Name'}

-- the names, the last bound in front
abbrev pub names_around : Around → List ℕ
names_around Nothing = []
names_around (Name' x r outer) = x.0 ∷ names_around outer
