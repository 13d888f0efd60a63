-- A prefix of a bunch's type as a prefix for each of its names, from left to right: `split` of the core as a list.
use Rattle.std.specs.Prelude.{List, [], ◌∷◌, ◌++◌}
use Rattle.stream_prefix.specs.StreamPrefix.{StreamPrefix, eps_emp, par_both, cat_fst, cat_both, emp}
use Rattle.bunch.specs.BunchTree.{BunchTree, empty, leaf, comma, semi}

-- nothing has come on each name
abbrev pub empties : BunchTree → List StreamPrefix
empties empty = []
empties (leaf x t) = emp t ∷ []
empties (comma a b) = empties a ++ empties b
empties (semi a b) = empties a ++ empties b

-- each name has the empty prefix of `eps`
abbrev pub blanks : BunchTree → List StreamPrefix
blanks empty = []
blanks (leaf x t) = eps_emp ∷ []
blanks (comma a b) = blanks a ++ blanks b
blanks (semi a b) = blanks a ++ blanks b

-- each name's part of a prefix
abbrev pub parts : BunchTree → StreamPrefix → List StreamPrefix
parts empty p = []
parts (leaf x t) p = p ∷ []
parts (comma a b) (par_both p q) = parts a p ++ parts b q
parts (semi a b) (cat_fst p) = parts a p ++ empties b
parts (semi a b) (cat_both p q) = parts a p ++ parts b q
parts b p = blanks b
