-- Which bytes and events a reader stands for.
use Rattle.std.specs.Prelude.{◌≡◌, ◌≢◌, ℕ, List, [], ◌∷◌, ◌++◌, Option, Some, None, Result, length, MatchResult}
use Rattle.event_word.specs.StreamEvent.{StreamEvent}
use Rattle.event_frame.specs.declared.version.Version.{Version}
use Rattle.event_frame.specs.declared.version.Version.TheVariants.{V1, V2}
use Rattle.event_frame.specs.declared.fault.FrameFault.{FrameFault}
use Rattle.event_frame.specs.declared.fault.FrameFault.TheVariants.{Truncated}
use Rattle.event_frame.specs.Frames.{header, frames, AllFit}
use Rattle.event_frame.specs.Reading.{Ending, Whole, Inside, Bad, whole, ending}
use Rattle.event_frame.specs.FrameReader.{FrameReader}

-- the bytes that were taken: none, or the header and the frames of the word
abbrev pub taken_bytes : Option Version → List StreamEvent → List ℕ
taken_bytes None word = []
taken_bytes (Some v) word = header v ++ frames v word

-- the events that can be taken: none before the header, and then those that have a frame
abbrev pub CanTake : Option Version → List StreamEvent → Type 0
CanTake None word = word ≡ []
CanTake (Some v) word = AllFit v word

-- all these bytes were pushed, and the events of the word were answered
pub record Reads (r : FrameReader) (all : List ℕ) (answered : List StreamEvent) : Type 0 where
  pub split : all ≡ taken_bytes r.version answered ++ r.kept
  pub place : r.taken ≡ length (taken_bytes r.version answered)
  pub events : CanTake r.version answered

-- the new reader stands for what the old one stood for
abbrev pub Stays : FrameReader → FrameReader → Type 0
Stays old new = (all : List ℕ) (word : List StreamEvent) → Reads old all word → Reads new all word

-- the new reader stands for these bytes more
abbrev pub Gets : FrameReader → FrameReader → List ℕ → Type 0
Gets old new bytes = (all : List ℕ) (word : List StreamEvent) → Reads old all word → Reads new (all ++ bytes) word

-- the new reader has answered one event more, which is the next of the bytes pushed
abbrev pub Takes : FrameReader → FrameReader → StreamEvent → Type 0
Takes old new x = (all : List ℕ) (word : List StreamEvent) → Reads old all word
    → Reads new all (word ++ x ∷ []) × ((more : List StreamEvent) × (whole all ≡ word ++ x ∷ more))

-- no whole frame and no fault is left
abbrev pub HoldsNoMore : FrameReader → Type 0
HoldsNoMore r = (all : List ℕ) (word : List StreamEvent) → Reads r all word → (whole all ≡ word) × ((fault : FrameFault) → ending all ≢ Bad fault)

-- no whole frame stands before this fault
abbrev pub HoldsFault : FrameReader → FrameFault → Type 0
HoldsFault r fault = (all : List ℕ) (word : List StreamEvent) → Reads r all word → (whole all ≡ word) × (ending all ≡ Bad fault)

-- the fault of so many bytes that end so
abbrev pub fault_of : Ending → ℕ → Option FrameFault
fault_of Whole count = None
fault_of Inside count = Some (Truncated count)
fault_of (Bad fault) count = Some fault

-- the fault, or else none
abbrev pub IsFaultOf : Ending → ℕ → Result (Unit {0}) FrameFault → Type 0
IsFaultOf end count result = MatchResult result (λ _. fault_of end count ≡ None) (λ fault. fault_of end count ≡ Some fault)

-- how the call of a version is numbered, with 0 before the header
abbrev pub version_number : Option Version → ℕ
version_number None = 0
version_number (Some V1) = 1
version_number (Some V2) = 2

-- only the room may differ
pub record SameBytes (old new : FrameReader) : Type 0 where
  pub version : new.version ≡ old.version
  pub taken : new.taken ≡ old.taken
  pub kept : new.kept ≡ old.kept
