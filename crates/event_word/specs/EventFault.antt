-- The walk along an event's steps, and the fault that it meets.
use Rattle.std.specs.Prelude.{ℕ, ◌+◌, List, [], ◌∷◌, Option, Some, None, if◌then◌else◌}
use Rattle.stream_type.specs.StreamType.{StreamType, one, int, cat, par, sum, star, null_of}
use Rattle.event_word.specs.declared.event.Step.{Step}
use Rattle.event_word.specs.declared.event.Step.TheVariants.{Left, Right, First}
use Rattle.event_word.specs.declared.event.Leaf.{Leaf}
use Rattle.event_word.specs.declared.event.Leaf.TheVariants.{One, Int, Inl, Inr, Cut, Item, End}
use Rattle.event_word.specs.declared.fault.EventFault.{EventFault}
use Rattle.event_word.specs.declared.fault.EventFault.TheVariants.{Ended, WrongStep, WrongLeaf, EarlyCut}
use Rattle.event_word.specs.StreamEvent.{StreamEvent}

-- where no step is left, at a type that is not null
abbrev pub leaf_fault : ℕ → Leaf → StreamType → Option EventFault
leaf_fault depth One one = None
leaf_fault depth (Int n) int = None
leaf_fault depth Inl (sum s t) = None
leaf_fault depth Inr (sum s t) = None
leaf_fault depth Item (star s) = None
leaf_fault depth End (star s) = None
leaf_fault depth Cut (cat s t) = if null_of s then None else Some (EarlyCut depth)
leaf_fault depth _ _ = Some (WrongLeaf depth)

-- the walk from a place on, after as many steps as the depth says; a null place ends it first of all
abbrev pub fault_from : ℕ → List Step → Leaf → StreamType → Option EventFault
fault_from depth [] x s = if null_of s then Some (Ended depth) else leaf_fault depth x s
fault_from depth (Left ∷ ps) x (par s t) =
    if null_of (par s t) then Some (Ended depth) else fault_from (depth + 1) ps x s
fault_from depth (Right ∷ ps) x (par s t) =
    if null_of (par s t) then Some (Ended depth) else fault_from (depth + 1) ps x t
fault_from depth (First ∷ ps) x (cat s t) = fault_from (depth + 1) ps x s
fault_from depth (i ∷ ps) x s = if null_of s then Some (Ended depth) else Some (WrongStep depth)

-- the fault of an event at a type, if it has one
abbrev pub fault_of : StreamEvent → StreamType → Option EventFault
fault_of x s = fault_from 0 x.path x.leaf s
