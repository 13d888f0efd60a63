-- What is awaited of a program's input: a tree of the shape of main's context, each name with what is left of
-- its type, and each semicolon with whether its mark has come.
--
-- Choices that are not obvious:
-- - It is made of what came alone, and doesn't grow with it. A part behind a mark that hasn't come stands as
--   it was at the beginning.
-- - A place is read off by name, as contexts are: the type of a name is the first that stands with it.
use Rattle.std.specs.Prelude.{ℕ, Bool, true, false, List, [], ◌∷◌, ◌++◌, map}
use Rattle.stream_type.specs.StreamType.{StreamType, type_of}
use Rattle.stream_prefix.specs.StreamPrefix.{StreamPrefix, par_both, cat_fst, cat_both, emp, der}
use Rattle.bunch.specs.BunchTree.{BunchTree, empty, leaf, comma, semi}
use Rattle.delta_state.specs.StateTree.{HeldName, held_names}
use Rattle.delta_state.specs.StateMeaning.{types_held}
use Rattle.delta_state.specs.PlaceTree.{PlaceTree}
use Rattle.machine_parts.specs.declared.awaited.Awaited.{Awaited}
use Rattle.machine_parts.specs.declared.awaited.Awaited.TheVariants.{Nothing, Stream, AtOnce', InTurn'}

pub data AwaitedTree : Type 0 where
  nothing_awaited : AwaitedTree
  -- what is left of the type of a name
  stream_awaited : (x : ℕ) (t : StreamType) → AwaitedTree
  -- both at once
  both_awaited : (a b : AwaitedTree) → AwaitedTree
  -- one after the other, and whether the mark between them has come
  turns_awaited : (cut : Bool) (a b : AwaitedTree) → AwaitedTree

-- what a tree of the machine stands for
abbrev pub awaited_in : Awaited → AwaitedTree
awaited_in Nothing = nothing_awaited
awaited_in (Stream x t) = stream_awaited x.0 (type_of t)
awaited_in (AtOnce' p a q b) = both_awaited (awaited_in a) (awaited_in b)
awaited_in (InTurn' cut p a q b) = turns_awaited cut (awaited_in a) (awaited_in b)

-- the whole of a context
abbrev pub whole_of : BunchTree → AwaitedTree
whole_of empty = nothing_awaited
whole_of (leaf x t) = stream_awaited x t
whole_of (comma a b) = both_awaited (whole_of a) (whole_of b)
whole_of (semi a b) = turns_awaited false (whole_of a) (whole_of b)

-- what a prefix of a context's type leaves of it
abbrev pub left_of : BunchTree → StreamPrefix → AwaitedTree
left_of empty p = nothing_awaited
left_of (leaf x t) p = stream_awaited x (der p t)
left_of (comma a b) (par_both p q) = both_awaited (left_of a p) (left_of b q)
left_of (semi a b) (cat_fst p) = turns_awaited false (left_of a p) (whole_of b)
left_of (semi a b) (cat_both p q) = turns_awaited true (left_of a p) (left_of b q)
left_of b p = whole_of b

-- each name with its type, where nothing comes
abbrev pub still_entries : AwaitedTree → List HeldName
still_entries nothing_awaited = []
still_entries (stream_awaited x t) = record { name = x; type = t; prefix = emp t } ∷ []
still_entries (both_awaited a b) = still_entries a ++ still_entries b
still_entries (turns_awaited cut a b) = still_entries a ++ still_entries b

-- each name with its type and its part of what comes
abbrev pub entries_on : AwaitedTree → StreamPrefix → List HeldName
entries_on (stream_awaited x t) d = record { name = x; type = t; prefix = d } ∷ []
entries_on (both_awaited a b) (par_both d e) = entries_on a d ++ entries_on b e
entries_on (turns_awaited false a b) (cat_fst d) = entries_on a d ++ still_entries b
entries_on (turns_awaited false a b) (cat_both d e) = entries_on a d ++ entries_on b e
entries_on (turns_awaited true a b) d = still_entries a ++ entries_on b d
entries_on _ d = []

-- what is awaited after it
abbrev pub awaited_after : AwaitedTree → StreamPrefix → AwaitedTree
awaited_after (stream_awaited x t) d = stream_awaited x (der d t)
awaited_after (both_awaited a b) (par_both d e) = both_awaited (awaited_after a d) (awaited_after b e)
awaited_after (turns_awaited false a b) (cat_fst d) = turns_awaited false (awaited_after a d) b
awaited_after (turns_awaited false a b) (cat_both d e) = turns_awaited true (awaited_after a d) (awaited_after b e)
awaited_after (turns_awaited true a b) d = turns_awaited true a (awaited_after b d)
awaited_after a d = a

-- of each semicolon, a form before its parts, whether its mark has come
abbrev pub marks_of : AwaitedTree → List Bool
marks_of nothing_awaited = []
marks_of (stream_awaited x t) = []
marks_of (both_awaited a b) = marks_of a ++ marks_of b
marks_of (turns_awaited cut a b) = cut ∷ (marks_of a ++ marks_of b)

-- the place at which so much is awaited
abbrev pub place_in : AwaitedTree → PlaceTree
place_in a = record { ins = map (types_held (still_entries a)) (held_names (still_entries a)); cuts = marks_of a }
