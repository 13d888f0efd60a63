-- The types that declarations name.
use Rattle.std.specs.Prelude.{ℕ, List, [], ◌∷◌}
use Rattle.stream_type.specs.StreamType.{StreamType}
use Rattle.delta_tree.specs.SyntaxTree.{Declaration, alias_declared, function_declared}
use Rattle.delta_meaning.specs.TypeNames.{TypeNames, type_meant, names_below}

-- the names of types among declarations with their types, in turn, where these names are known above them
abbrev pub aliases_among : TypeNames → List Declaration → List (ℕ × StreamType)
aliases_among names [] = []
aliases_among names (alias_declared a ∷ ds) = (a.name, type_meant names a.type) ∷ aliases_among (names_below names (alias_declared a)) ds
aliases_among names (function_declared f ∷ ds) = aliases_among names ds
