-- The walk meets no fault just where the event stands.
use Rattle.std.proofs.Common.{◌≡◌, ◌↔◌, ℕ, ◌+◌, Bool, true, false, ◌&&◌, List, [], ◌∷◌, Option, Some, None, refl}
use Rattle.std.specs.Prelude.{if◌then◌else◌}
use Rattle.stream_type.specs.StreamType.{StreamType, one, int, cat, par, sum, star, null_of}
use Rattle.event_word.specs.declared.event.Step.{Step}
use Rattle.event_word.specs.declared.event.Step.TheVariants.{Left, Right, First}
use Rattle.event_word.specs.declared.event.Leaf.{Leaf}
use Rattle.event_word.specs.declared.event.Leaf.TheVariants.{One, Int, Inl, Inr, Cut, Item, End}
use Rattle.event_word.specs.declared.fault.EventFault.{EventFault}
use Rattle.event_word.specs.declared.fault.EventFault.TheVariants.{Ended, WrongStep, WrongLeaf, EarlyCut}
use Rattle.event_word.specs.StreamEvent.{StreamEvent}
use Rattle.event_word.specs.Admits.{Admits}
use Rattle.event_word.specs.EventFault.{leaf_fault, fault_from, fault_of}
use Rattle.event_word.proofs.Standing.{Stands, stands, admitted, at_left, at_right, at_first, at_cut, at_one, at_int, at_inl, at_inr, at_item, at_end}

-- no event stands at a null type
not_null : {s : StreamType} {ps : List Step} {x : Leaf} → Stands s ps x → null_of s ≡ false
not_null (at_left h) = cc (not_null h)
not_null (at_right {s = s} {t = t} h) = rw (not_null h) (right (null_of s))
  where
    right : (a : Bool) → (a && false) ≡ false
    right true = refl
    right false = refl
not_null (at_first h) = refl
not_null (at_cut m) = refl
not_null at_one = refl
not_null at_int = refl
not_null at_inl = refl
not_null at_inr = refl
not_null at_item = refl
not_null at_end = refl

-- where the event stands the walk meets no fault
no_fault : {s : StreamType} {ps : List Step} {x : Leaf} → Stands s ps x → (depth : ℕ) → fault_from depth ps x s ≡ None
no_fault (at_left {s = s} {t = t} h) depth = let e = not_null (at_left {s = s} {t = t} h) in rw e (no_fault h (depth + 1))
no_fault (at_right {s = s} {t = t} h) depth = let e = not_null (at_right {s = s} {t = t} h) in rw e (no_fault h (depth + 1))
no_fault (at_first h) depth = no_fault h (depth + 1)
no_fault (at_cut m) depth = rw m
no_fault at_one depth = refl
no_fault at_int depth = refl
no_fault at_inl depth = refl
no_fault at_inr depth = refl
no_fault at_item depth = refl
no_fault at_end depth = refl

-- the other side of a test whose first side is a fault
past : (b : Bool) (f : EventFault) (o : Option EventFault) → (if b then Some f else o) ≡ None → o ≡ None
past true f o e = cc
past false f o e = e

never : (b : Bool) (f g : EventFault) → (if b then Some f else Some g) ≡ None → ⊥
never true f g e = cc
never false f g e = cc

-- where the walk meets no fault the event stands
no_fault_stands : (depth : ℕ) (ps : List Step) (x : Leaf) (s : StreamType) → fault_from depth ps x s ≡ None → Stands s ps x
no_fault_stands depth [] One one e = at_one
no_fault_stands depth [] (Int n) int e = at_int
no_fault_stands depth [] Inl (sum s t) e = at_inl
no_fault_stands depth [] Inr (sum s t) e = at_inr
no_fault_stands depth [] Item (star s) e = at_item
no_fault_stands depth [] End (star s) e = at_end
no_fault_stands depth [] Cut (cat s t) e = at_cut (cut (null_of s) e)
  where
    cut : (b : Bool) → (if b then None else Some (EarlyCut depth)) ≡ None → b ≡ true
    cut true e = refl
    cut false e = cc
no_fault_stands depth (Left ∷ ps) x (par s t) e = at_left (no_fault_stands (depth + 1) ps x s (past (null_of (par s t)) _ _ e))
no_fault_stands depth (Right ∷ ps) x (par s t) e = at_right (no_fault_stands (depth + 1) ps x t (past (null_of (par s t)) _ _ e))
no_fault_stands depth (First ∷ ps) x (cat s t) e = at_first (no_fault_stands (depth + 1) ps x s e)
no_fault_stands depth [] x (par s t) e = absurd (never (null_of (par s t)) (Ended depth) (WrongLeaf depth) e)
no_fault_stands depth (First ∷ ps) x (par s t) e = absurd (never (null_of (par s t)) (Ended depth) (WrongStep depth) e)
no_fault_stands depth _ _ _ e = absurd (cc e)

-- the walk judges as the table does
pub no_fault_is_admitted : (s : StreamType) (x : StreamEvent) → (fault_of x s ≡ None) ↔ Admits s x
no_fault_is_admitted s x =
    (λ e. admitted (no_fault_stands 0 x.path x.leaf s e), λ h. no_fault (stands s x h) 0)

taken : (b : Bool) (o p : Option EventFault) → b ≡ true → (if b then o else p) ≡ o
taken true o p e = refl
taken false o p e = cc

-- a null type ends every walk
pub fault_from-null : (depth : ℕ) (ps : List Step) (x : Leaf) (s : StreamType) → null_of s ≡ true → fault_from depth ps x s ≡ Some (Ended depth)
fault_from-null depth [] x s h = taken (null_of s) (Some (Ended depth)) (leaf_fault depth x s) h
fault_from-null depth (Left ∷ ps) x (par s t) h = rw h
fault_from-null depth (Right ∷ ps) x (par s t) h = rw h
fault_from-null depth (First ∷ ps) x (cat s t) h = absurd (cc h)
fault_from-null depth (i ∷ ps) x s h = taken (null_of s) (Some (Ended depth)) (Some (WrongStep depth)) h

pub ruleset walks = (no_fault_is_admitted, fault_from-null)
