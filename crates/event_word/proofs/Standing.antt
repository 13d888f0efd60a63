-- That an event stands at a type, as a derivation by the table's rows.
use Rattle.std.proofs.Common.{ℤ, List, [], ◌∷◌}
use Rattle.std.specs.Prelude.{IsTrue}
use Rattle.stream_type.specs.StreamType.{StreamType, one, int, cat, par, sum, star, null_of}
use Rattle.event_word.specs.declared.event.Step.{Step}
use Rattle.event_word.specs.declared.event.Step.TheVariants.{Left, Right, First}
use Rattle.event_word.specs.declared.event.Leaf.{Leaf}
use Rattle.event_word.specs.declared.event.Leaf.TheVariants.{One, Int, Inl, Inr, Cut, Item, End}
use Rattle.event_word.specs.StreamEvent.{StreamEvent}
use Rattle.event_word.specs.Admits.{AdmitsAt, Admits}

-- the twin of AdmitsAt on which laws recurse
pub data Stands : StreamType → List Step → Leaf → Type 0 where
  at_left : {s t : StreamType} {ps : List Step} {x : Leaf} → Stands s ps x → Stands (par s t) (Left ∷ ps) x
  at_right : {s t : StreamType} {ps : List Step} {x : Leaf} → Stands t ps x → Stands (par s t) (Right ∷ ps) x
  at_first : {s t : StreamType} {ps : List Step} {x : Leaf} → Stands s ps x → Stands (cat s t) (First ∷ ps) x
  at_cut : {s t : StreamType} → IsTrue (null_of s) → Stands (cat s t) [] Cut
  at_one : Stands one [] One
  at_int : {n : ℤ} → Stands int [] (Int n)
  at_inl : {s t : StreamType} → Stands (sum s t) [] Inl
  at_inr : {s t : StreamType} → Stands (sum s t) [] Inr
  at_item : {s : StreamType} → Stands (star s) [] Item
  at_end : {s : StreamType} → Stands (star s) [] End

stands_at : (s : StreamType) (ps : List Step) (x : Leaf) → AdmitsAt s ps x → Stands s ps x
stands_at (par s t) (Left ∷ ps) x h = at_left (stands_at s ps x h)
stands_at (par s t) (Right ∷ ps) x h = at_right (stands_at t ps x h)
stands_at (cat s t) (First ∷ ps) x h = at_first (stands_at s ps x h)
stands_at (cat s t) [] Cut h = at_cut h
stands_at one [] One h = at_one
stands_at int [] (Int n) h = at_int
stands_at (sum s t) [] Inl h = at_inl
stands_at (sum s t) [] Inr h = at_inr
stands_at (star s) [] Item h = at_item
stands_at (star s) [] End h = at_end
stands_at _ _ _ h = absurd (search)

-- what a type admits stands there
pub stands : (s : StreamType) (x : StreamEvent) → Admits s x → Stands s x.path x.leaf
stands s x h = stands_at s x.path x.leaf h

-- what stands at a type is admitted there
pub admitted : {s : StreamType} {ps : List Step} {x : Leaf} → Stands s ps x → AdmitsAt s ps x
admitted (at_left h) = admitted h
admitted (at_right h) = admitted h
admitted (at_first h) = admitted h
admitted (at_cut m) = m
admitted at_one = tt
admitted at_int = tt
admitted at_inl = tt
admitted at_inr = tt
admitted at_item = tt
admitted at_end = tt
