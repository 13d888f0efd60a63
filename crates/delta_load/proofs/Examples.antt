-- Worked examples of the load.
use Rattle.std.proofs.Common.{◌≡◌, [], ◌∷◌, length, refl}
use Rattle.std.specs.Prelude.{pos}
use Rattle.event_word.specs.declared.event.Step.TheVariants.{First}
use Rattle.event_word.specs.declared.event.Leaf.TheVariants.{Int, Cut, Item, End}
use Rattle.event_word.specs.StreamEvent.{leaf_of, under}
use Rattle.delta_load.specs.Load.{value_of, load}

-- no items: the end alone
no_items : load 5 0 ≡ leaf_of End ∷ []
no_items = refl

-- two items, whose keys are 0 and 1
two_items : load 996 2
    ≡ leaf_of Item ∷ under First (under First (leaf_of (Int (pos 0)))) ∷ under First (leaf_of Cut) ∷ under First (leaf_of (Int (pos 996))) ∷ leaf_of Cut
    ∷ leaf_of Item ∷ under First (under First (leaf_of (Int (pos 1)))) ∷ under First (leaf_of Cut) ∷ under First (leaf_of (Int (pos 3))) ∷ leaf_of Cut
    ∷ leaf_of End ∷ []
two_items = refl

-- the values begin anew at a thousand, also where the start is above it
value_anew : value_of 999999 143 ≡ 0
value_anew = refl

-- five events an item, and the end
sixteen_events : length (load 996 3) ≡ 16
sixteen_events = refl
