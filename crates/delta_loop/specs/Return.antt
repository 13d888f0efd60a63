-- The table of ends: what stands behind each end of a run, in the bytes that were read and written.
use Rattle.std.specs.Prelude.{◌≡◌, ◌⊎◌, ℕ, ◌+◌, ◌<◌, ◌≤◌, ◌^◌, List, [], ◌∷◌, ◌++◌, Bool, true, false, Some, None, length, take}
use Rattle.event_word.specs.StreamEvent.{StreamEvent}
use Rattle.event_frame.specs.Reading.{whole}
use Rattle.delta_end.specs.declared.end.End.{End}
use Rattle.delta_end.specs.declared.end.End.TheVariants.{Done, Usage, Refused, Input, Budget, Deep, Open, FileFailed, ReadFailed, WriteFailed, Memory, Long, Objected}
use Rattle.delta_loop.specs.Meaning.{Meaning, StartsCostly, StartsDeep, IsCostly, IsDeep}
use Rattle.delta_loop.specs.Output.{accepted, opening, output, due}
use Rattle.delta_loop.specs.Finding.{place_in, finding}

-- at most 2^40 bytes are read, and one more only where the input is too long: so the row of every other end speaks
-- of the first 2^40 bytes, and that of `Long` of these and of one byte more
pub record IsWithinLimit (end : End) (count : ℕ) : Type 0 where
  pub most : count ≤ 2 ^ 40 + 1
  pub past : 2 ^ 40 < count → end ≡ Long

-- the second list goes on from the first
abbrev pub Begins : {A : Type 0} → List A → List A → Type 0
Begins {A} front all = (more : List A) × (all ≡ front ++ more)

-- the program was stopped before any event: nothing was read, and the header alone was written
pub record StopsFirst (P : Meaning) (stops : Type 0) (input written : List ℕ) (at : ℕ) : Type 0 where
  pub unread : input ≡ []
  pub header : written ≡ opening P.version
  pub place : at ≡ 0
  pub why : stops

-- the program was stopped with an event in hand that may come after those before it: what is due for them was
-- written, and the place is that of the event's frame
pub record StopsAt (P : Meaning) (stops : List StreamEvent → StreamEvent → Type 0) (input written : List ℕ) (at : ℕ) : Type 0 where
  pub word : List StreamEvent
  pub event : StreamEvent
  pub more : List StreamEvent
  pub came : whole input ≡ word ++ event ∷ more
  pub accepts : accepted P (word ++ event ∷ []) ≡ word ++ event ∷ []
  pub place : at ≡ place_in input word
  pub before : written ≡ output P word
  pub why : stops word event

-- a run of the program that read this input, up to its end or not, and wrote these bytes, may end so
abbrev pub MayEnd : Meaning → List ℕ → Bool → List ℕ → End → Type 0
MayEnd P input ended written Done =
    (ended ≡ true) × (finding P input ended ≡ None) × (P.finishes (accepted P (whole input)) ≡ true) × (written ≡ due P input)
    × (P.is_whole (accepted P (whole input)) ≡ true)
MayEnd P input ended written Open = (ended ≡ true) × (finding P input ended ≡ None) × (P.finishes (accepted P (whole input)) ≡ false) × (written ≡ due P input)
MayEnd P input ended written (Input fault) = (finding P input ended ≡ Some fault) × (written ≡ due P input)
MayEnd P input ended written ReadFailed = (finding P input ended ≡ None) × (written ≡ due P input)
MayEnd P input ended written WriteFailed = Begins written (due P input)
MayEnd P input ended written Memory = Begins written (due P input)
MayEnd P input ended written Long = (2 ^ 40 < length input) × (finding P (take (2 ^ 40) input) false ≡ None) × (written ≡ due P (take (2 ^ 40) input))
MayEnd P input ended written Usage = ⊥
MayEnd P input ended written (Refused why) = ⊥
MayEnd P input ended written (Budget at) = StopsFirst P (StartsCostly P) input written at ⊎ StopsAt P (IsCostly P) input written at
MayEnd P input ended written (Deep at) = StopsFirst P (StartsDeep P) input written at ⊎ StopsAt P (IsDeep P) input written at
MayEnd P input ended written FileFailed = ⊥
MayEnd P input ended written (Objected what) = ⊥
