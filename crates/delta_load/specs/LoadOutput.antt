-- What the load's program puts out.
use Rattle.std.specs.Prelude.{ℕ, zero, suc, pos, nat_lt, ◌+◌, List, [], ◌∷◌, ◌++◌, if◌then◌else◌}
use Rattle.event_word.specs.declared.event.Step.TheVariants.{First}
use Rattle.event_word.specs.declared.event.Leaf.TheVariants.{Int, Cut, Item, End}
use Rattle.event_word.specs.StreamEvent.{StreamEvent, leaf_of, under}
use Rattle.delta_load.specs.Load.{value_of}

-- a key, as a whole item
abbrev pub key_events : ℕ → List StreamEvent
key_events key = leaf_of Item ∷ under First (leaf_of (Int (pos key))) ∷ leaf_of Cut ∷ []

-- the keys from this one on, of so many items, whose values are above 500, and the end
abbrev pub kept_from : ℕ → ℕ → ℕ → List StreamEvent
kept_from start key zero = leaf_of End ∷ []
kept_from start key (suc items) = (if nat_lt 500 (value_of start key) then key_events key else []) ++ kept_from start (key + 1) items
