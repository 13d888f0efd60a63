-- Where the input of a program is, read off its main bunch.
use Rattle.std.specs.Prelude.{Bool, true, false, List, [], ◌∷◌, ◌++◌, map}
use Rattle.stream_type.specs.StreamType.{StreamType, type_of}
use Rattle.stream_prefix.specs.StreamPrefix.{StreamPrefix, cat_both}
use Rattle.bunch.specs.BunchTree.{BunchTree, empty, leaf, comma, semi, as_type, leaf_names}
use Rattle.delta_state.specs.declared.place.Place.{Place}
use Rattle.core_term.specs.Environment.{left_at}
use Rattle.core_term.specs.Agreement.{types_in}
use Rattle.core_term.specs.Split.{split}
use Rattle.core_term.specs.Parts.{left_part, right_part, first_part, second_part}

-- a place: what is left of the type of each name of a bunch, in turn, and of each semicolon, a form
-- before its parts, whether its mark has come
pub record PlaceTree : Type 0 where
  pub ins : List StreamType
  pub cuts : List Bool

-- the place that one of the program stands for
abbrev pub place_of : Place → PlaceTree
place_of p = record { ins = map type_of p.ins.items; cuts = p.cuts.items }

-- whether the mark between two parts has come
abbrev pub is_cut : StreamPrefix → Bool
is_cut (cat_both p q) = true
is_cut _ = false

-- of each semicolon of a bunch whether its mark has come; one that isn't reached has no mark
abbrev pub cuts_of : BunchTree → StreamPrefix → List Bool
cuts_of empty p = []
cuts_of (leaf x t) p = []
cuts_of (comma a b) p = cuts_of a (left_part p) ++ cuts_of b (right_part p)
cuts_of (semi a b) p = is_cut p ∷ (cuts_of a (first_part p) ++ cuts_of b (second_part (as_type b) p))

-- the place of a prefix of the bunch's type
abbrev pub place_at : BunchTree → StreamPrefix → PlaceTree
place_at b p = record { ins = map (left_at (split b p) (types_in b)) (leaf_names b); cuts = cuts_of b p }
