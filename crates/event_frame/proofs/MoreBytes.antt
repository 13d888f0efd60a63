-- What more bytes do to what is read, and which faults are read.
use Rattle.std.proofs.Common.{◌≡◌, ◌≢◌, ℕ, suc, zero, ◌+◌, List, [], ◌∷◌, ◌++◌, Bool, true, false, Option, Some, None, ◌==◌, if◌then◌else◌, refl, ap}
use Rattle.std.specs.Prelude.{nat_le}
use Rattle.event_word.specs.declared.event.Step.{Step}
use Rattle.event_word.specs.declared.event.Leaf.{Leaf}
use Rattle.event_word.specs.StreamEvent.{StreamEvent}
use Rattle.event_frame.specs.declared.version.Version.{Version}
use Rattle.event_frame.specs.declared.fault.FrameFault.{FrameFault}
use Rattle.event_frame.specs.declared.fault.FrameFault.TheVariants.{BadMagic, LongPath, BadStep, BadLeaf, Truncated}
use Rattle.event_frame.specs.Frames.{longest}
use Rattle.event_frame.specs.Reading.{Place, AtLetters, Between, AtSteps, AtLeaf, AtNumber, Move, Goes, Gives, Faults, Taken, parts, steps_in, leaf_of, after_steps, after_leaf, advance, Bad, ending_at, Reading, go_on, reading_from, start, whole, ending}

-- the second reading goes on from the first, and keeps its fault
record GoesOn (short long : Reading) : Type 0 where
  more : List StreamEvent
  word : long.word ≡ short.word ++ more
  fault : (fault : FrameFault) → short.ending ≡ Bad fault → (long.word ≡ short.word) × (long.ending ≡ Bad fault)

no_fault_at : (place : Place) (fault : FrameFault) → ending_at place ≢ Bad fault
no_fault_at (AtLetters letters) fault e = cc
no_fault_at (Between v) fault e = cc
no_fault_at (AtSteps v more path) fault e = cc
no_fault_at (AtLeaf v path) fault e = cc
no_fault_at (AtNumber v path more bytes) fault e = cc

move_goes_on : (m : Move) (short long : Place → Reading) → ((p : Place) → GoesOn (short p) (long p)) → GoesOn (go_on m short) (go_on m long)
move_goes_on (Goes p) short long goes = goes p
move_goes_on (Gives x p) short long goes = record {
  more = (goes p).more;
  word = ap (λ (w : List StreamEvent). x ∷ w) (goes p).word;
  fault = λ fault e. let kept = (goes p).fault fault e in (ap (λ (w : List StreamEvent). x ∷ w) kept.0, kept.1);
}
move_goes_on (Faults f) short long goes = record { more = []; word = refl; fault = λ fault e. (refl, e) }

goes_on : (place : Place) (at : ℕ) (a b : List ℕ) → GoesOn (reading_from place at a) (reading_from place at (a ++ b))
goes_on place at [] b = record {
  more = (reading_from place at b).word;
  word = refl;
  fault = λ fault e. absurd (no_fault_at place fault e);
}
goes_on place at (byte ∷ a) b =
    move_goes_on (advance place at byte) (λ next. reading_from next (at + 1) a) (λ next. reading_from next (at + 1) (a ++ b)) (λ p. goes_on p (at + 1) a b)

pub more_bytes : (a b : List ℕ)
    → ((more : List StreamEvent) × (whole (a ++ b) ≡ whole a ++ more))
    × ((fault : FrameFault) → ending a ≡ Bad fault → (whole (a ++ b) ≡ whole a) × (ending (a ++ b) ≡ Bad fault))
more_bytes a b = let on = goes_on start 0 a b in ((on.more, on.word), on.fault)

-- a move that finds no early end
IsSure : Move → Type 0
IsSure m = (count : ℕ) → m ≢ Faults (Truncated count)

sure_if : (b : Bool) (m k : Move) → IsSure m → IsSure k → IsSure (if b then m else k)
unfolding IsSure
sure_if true m k sure other = sure
sure_if false m k sure other = other

sure_goes : (p : Place) → IsSure (Goes p)
unfolding IsSure
sure_goes p count e = cc

sure_gives : (x : StreamEvent) (p : Place) → IsSure (Gives x p)
unfolding IsSure
sure_gives x p count e = cc

sure_magic : (at : ℕ) → IsSure (Faults (BadMagic at))
unfolding IsSure
sure_magic at count e = cc

sure_long : (at byte : ℕ) → IsSure (Faults (LongPath at byte))
unfolding IsSure
sure_long at byte count e = cc

sure_steps : (v : Version) (path : List Step) (o : Option Taken) (at byte : ℕ) → IsSure (after_steps v path o (BadStep at byte))
unfolding IsSure
sure_steps v path (Some taken) at byte count e = cc
sure_steps v path None at byte count e = cc

sure_leaf : (v : Version) (path : List Step) (o : Option Leaf) (at byte : ℕ) → IsSure (after_leaf v path o (BadLeaf at byte))
unfolding IsSure
sure_leaf v path (Some leaf) at byte count e = cc
sure_leaf v path None at byte count e = cc

sure : (place : Place) (at byte : ℕ) → IsSure (advance place at byte)
sure (AtLetters (letter ∷ letters)) at byte = sure_if (byte == letter) _ _ (sure_goes _) (sure_magic at)
sure (AtLetters []) at byte = sure_if (byte == 0x31) _ _ (sure_goes _) (sure_if (byte == 0x32) _ _ (sure_goes _) (sure_magic at))
sure (Between v) at byte = sure_if (nat_le byte (longest v)) _ _ (sure_goes _) (sure_long at byte)
sure (AtSteps v more path) at byte = sure_steps v path (steps_in (suc more) (parts v byte)) at byte
sure (AtLeaf v path) at byte = sure_if (byte == 0x11) _ _ (sure_goes _) (sure_leaf v path (leaf_of byte) at byte)
sure (AtNumber v path zero bytes) at byte = sure_gives _ _
sure (AtNumber v path (suc more) bytes) at byte = sure_goes _

move_sure : (m : Move) (next : Place → Reading) → IsSure m → ((p : Place) (count : ℕ) → (next p).ending ≢ Bad (Truncated count))
    → (count : ℕ) → (go_on m next).ending ≢ Bad (Truncated count)
unfolding IsSure
move_sure (Goes p) next sure others count e = others p count e
move_sure (Gives x p) next sure others count e = others p count e
move_sure (Faults f) next sure others count e = sure count (let same : f ≡ Truncated count = cc in ap Faults same)

not_truncated : (place : Place) (at : ℕ) (bytes : List ℕ) (count : ℕ) → (reading_from place at bytes).ending ≢ Bad (Truncated count)
not_truncated place at [] count e = no_fault_at place (Truncated count) e
not_truncated place at (byte ∷ bytes) count e =
    move_sure (advance place at byte) (λ next. reading_from next (at + 1) bytes) (sure place at byte) (λ p n. not_truncated p (at + 1) bytes n) count e

pub bad_is_not_truncated : (bytes : List ℕ) (count : ℕ) → ending bytes ≢ Bad (Truncated count)
bad_is_not_truncated bytes count = not_truncated start 0 bytes count
