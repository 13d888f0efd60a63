-- Where the input of a kept state has led since, and what is kept of it there.
--
-- Choices that are not obvious:
-- - A kept state may be kept again: after what came since, whoever wrote it. What is kept then is to it what it was to
--   its program.
use Rattle.std.specs.Prelude.{ℕ, Bool, true, false, List, ◌∷◌, ◌++◌, map}
use Rattle.stream_prefix.specs.StreamPrefix.{StreamPrefix, par_both, cat_fst, cat_both}
use Rattle.bunch.specs.BunchTree.{BunchTree, comma, semi, leaf_names}
use Rattle.core_term.specs.CoreTerm.{CoreProgram}
use Rattle.delta_state.specs.StateTree.{StateTree}
use Rattle.delta_state.specs.PlaceTree.{PlaceTree}
use Rattle.kept_state.specs.KeptTree.{KeptTree}
use Rattle.kept_state.specs.KeptPlace.{first_cuts, second_cuts}
use Rattle.kept_state.specs.KeptMeaning.{types_since, output_since}

-- the place of a kept state
abbrev pub place_kept : KeptTree → PlaceTree
place_kept k = record { ins = k.ins; cuts = k.cuts }

-- the marks of a bunch once p has come, where these had come before
abbrev pub cuts_since : BunchTree → List Bool → StreamPrefix → List Bool
cuts_since (comma a b) cuts (par_both p q) = cuts_since a (first_cuts a cuts) p ++ cuts_since b (second_cuts a cuts) q
cuts_since (semi a b) (true ∷ cuts) p = true ∷ (first_cuts a cuts ++ cuts_since b (second_cuts a cuts) p)
cuts_since (semi a b) (false ∷ cuts) (cat_fst p) = false ∷ (cuts_since a (first_cuts a cuts) p ++ second_cuts a cuts)
cuts_since (semi a b) (false ∷ cuts) (cat_both p q) = true ∷ (cuts_since a (first_cuts a cuts) p ++ cuts_since b (second_cuts a cuts) q)
cuts_since b cuts p = cuts

-- the place of a kept state, gone on by p
abbrev pub place_since : CoreProgram → KeptTree → StreamPrefix → PlaceTree
place_since c k p = record { ins = map (types_since c k p) (leaf_names c.main.params); cuts = cuts_since c.main.params k.cuts p }

-- what is kept again after so many events, when p has come since and the state is then s
abbrev pub kept_since : CoreProgram → KeptTree → StreamPrefix → ℕ → StateTree → KeptTree
kept_since c k p events s =
    record { events = events; ins = (place_since c k p).ins; cuts = (place_since c k p).cuts; out = output_since c k p; state = s }
