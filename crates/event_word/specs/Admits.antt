-- The events that stand at a type.
use Rattle.std.specs.Prelude.{List, [], ◌∷◌, IsTrue, ⊤}
use Rattle.stream_type.specs.StreamType.{StreamType, one, int, cat, par, sum, star, null_of}
use Rattle.event_word.specs.declared.event.Step.{Step}
use Rattle.event_word.specs.declared.event.Step.TheVariants.{Left, Right, First}
use Rattle.event_word.specs.declared.event.Leaf.{Leaf}
use Rattle.event_word.specs.declared.event.Leaf.TheVariants.{One, Int, Inl, Inr, Cut, Item, End}
use Rattle.event_word.specs.StreamEvent.{StreamEvent}

-- an event stands in a part at the end of its steps; Cut, only once nothing more can come on the first part
abbrev pub AdmitsAt : StreamType → List Step → Leaf → Type 0
AdmitsAt (par s t) (Left ∷ ps) x = AdmitsAt s ps x
AdmitsAt (par s t) (Right ∷ ps) x = AdmitsAt t ps x
AdmitsAt (cat s t) (First ∷ ps) x = AdmitsAt s ps x
AdmitsAt (cat s t) [] Cut = IsTrue (null_of s)
AdmitsAt one [] One = ⊤
AdmitsAt int [] (Int n) = ⊤
AdmitsAt (sum s t) [] Inl = ⊤
AdmitsAt (sum s t) [] Inr = ⊤
AdmitsAt (star s) [] Item = ⊤
AdmitsAt (star s) [] End = ⊤
AdmitsAt _ _ _ = ⊥

-- the type admits the event
abbrev pub Admits : StreamType → StreamEvent → Type 0
Admits s x = AdmitsAt s x.path x.leaf
