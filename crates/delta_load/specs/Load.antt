-- The load: a word of pairs of numbers, one pair after another, made from a start and a number of items.
use Rattle.std.specs.Prelude.{ℕ, zero, suc, pos, ◌+◌, ◌*◌, ◌%◌, List, [], ◌∷◌, ◌++◌}
use Rattle.stream_type.specs.StreamType.{StreamType, int, cat, star}
use Rattle.event_word.specs.declared.event.Step.TheVariants.{First}
use Rattle.event_word.specs.declared.event.Leaf.TheVariants.{Int, Cut, Item, End}
use Rattle.event_word.specs.StreamEvent.{StreamEvent, leaf_of, under}

-- pairs of a key and a value, without an end set before
abbrev pub load_type : StreamType
load_type = star (cat int int)

-- the value beside a key: it rises by seven from item to item, and begins anew at a thousand
abbrev pub value_of : ℕ → ℕ → ℕ
value_of start key = (7 * key + start) % 1000

-- an item begins, its key comes and its value, and it is whole
abbrev pub item_events : ℕ → ℕ → List StreamEvent
item_events key value =
    leaf_of Item ∷ under First (under First (leaf_of (Int (pos key)))) ∷ under First (leaf_of Cut) ∷ under First (leaf_of (Int (pos value))) ∷ leaf_of Cut ∷ []

-- so many items, of rising keys from this one on, and then the end
abbrev pub load_from : ℕ → ℕ → ℕ → List StreamEvent
load_from start key zero = leaf_of End ∷ []
load_from start key (suc items) = item_events key (value_of start key) ++ load_from start (key + 1) items

-- the load of so many items: the keys rise from 0
abbrev pub load : ℕ → ℕ → List StreamEvent
load start items = load_from start 0 items
