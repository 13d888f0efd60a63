-- Events with other numbers: f is put in for the number of a leaf. Steps stay as they are, and so do all other leaves.
use Rattle.std.specs.Prelude.{ℤ}
use Rattle.event_word.specs.declared.event.Leaf.{Leaf}
use Rattle.event_word.specs.declared.event.Leaf.TheVariants.{One, Int, Inl, Inr, Cut, Item, End}
use Rattle.event_word.specs.StreamEvent.{StreamEvent}

module _ (f : ℤ → ℤ) where
  -- a leaf with f in the place of its number
  abbrev pub exchanged_leaf : Leaf → Leaf
  exchanged_leaf One = One
  exchanged_leaf (Int n) = Int (f n)
  exchanged_leaf Inl = Inl
  exchanged_leaf Inr = Inr
  exchanged_leaf Cut = Cut
  exchanged_leaf Item = Item
  exchanged_leaf End = End

  -- so an event
  abbrev pub exchanged_event : StreamEvent → StreamEvent
  exchanged_event x = record { path = x.path; leaf = exchanged_leaf x.leaf }
