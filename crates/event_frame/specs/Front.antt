-- The words of the reader's private steps: a whole frame at the front of bytes, a part of one, or a byte that can't stand there.
use Rattle.std.specs.Prelude.{◌≡◌, ◌≢◌, ℕ, ◌+◌, ◌/◌, ◌<◌, ◌≤◌, List, [], ◌∷◌, ◌++◌, Option, Some, None, Result, Ok, Err, length, map, drop}
use Rattle.event_word.specs.declared.event.Step.{Step}
use Rattle.event_word.specs.StreamEvent.{StreamEvent, FitsLeaf}
use Rattle.event_frame.specs.declared.version.Version.{Version}
use Rattle.event_frame.specs.declared.version.Version.TheVariants.{V1, V2}
use Rattle.event_frame.specs.declared.fault.FrameFault.{FrameFault}
use Rattle.event_frame.specs.declared.front.Front.{Front}
use Rattle.event_frame.specs.declared.front.Front.TheVariants.{Frame, Part, Fault}
use Rattle.event_frame.specs.Frames.{step_code, path_bytes, leaf_bytes, frame, Fits}
use Rattle.event_frame.specs.Reading.{AtLetters, Between, at_path, event, Taken, Ending, Whole, Inside, Bad, stop, reading_from}

-- how many bytes so many steps take
abbrev pub path_len : Version → ℕ → ℕ
path_len V1 steps = steps
path_len V2 steps = (steps + 3) / 4

-- the bytes begin with so many steps and a leaf, n bytes in all, which are the event's
pub record IsTail (v : Version) (left : ℕ) (bytes : List ℕ) (x : StreamEvent) (n : ℕ) : Type 0 where
  pub steps : length x.path ≡ left
  pub within : n ≤ length bytes
  pub spelled : bytes ≡ path_bytes v x.path ++ (leaf_bytes x.leaf ++ drop n bytes)
  pub leaf : FitsLeaf x.leaf

-- at the steps of a frame, of which so many are to come
abbrev pub IsAtPath : Version → ℕ → ℕ → List ℕ → Front → Type 0
IsAtPath v left at bytes (Frame x n) = IsTail v left bytes x n
IsAtPath v left at bytes Part = (length bytes ≤ path_len v left + 8) × ((path : List Step) → reading_from (at_path v left path) at bytes ≡ stop Inside)
IsAtPath v left at bytes (Fault fault) = (path : List Step) → reading_from (at_path v left path) at bytes ≡ stop (Bad fault)

-- the bytes begin with a frame of n bytes, which is the event's
pub record IsFrame (v : Version) (bytes : List ℕ) (x : StreamEvent) (n : ℕ) : Type 0 where
  pub fits : Fits v x
  pub some : 0 < n
  pub within : n ≤ length bytes
  pub spelled : bytes ≡ frame v x ++ drop n bytes

-- how bytes between frames end that hold no whole frame
abbrev pub part_ending : List ℕ → Ending
part_ending [] = Whole
part_ending _ = Inside

-- between frames
abbrev pub IsFront : Version → ℕ → List ℕ → Front → Type 0
IsFront v at bytes (Frame x n) = IsFrame v bytes x n
IsFront v at bytes Part = (length bytes ≤ 40) × (reading_from (Between v) at bytes ≡ stop (part_ending bytes))
IsFront v at bytes (Fault fault) = reading_from (Between v) at bytes ≡ stop (Bad fault)

-- the byte behind the letters of the header
abbrev pub digit : Version → ℕ
digit V1 = 0x31
digit V2 = 0x32

-- in the header, before these letters and the digit
abbrev pub IsHeader : List ℕ → ℕ → List ℕ → Result (Option Version) FrameFault → Type 0
IsHeader letters at bytes (Ok (Some v)) = (more : List ℕ) × (bytes ≡ letters ++ digit v ∷ more)
IsHeader letters at bytes (Ok None) = (length bytes ≤ length letters) × (reading_from (AtLetters letters) at bytes ≡ stop Inside)
IsHeader letters at bytes (Err fault) =
    (reading_from (AtLetters letters) at bytes ≡ stop (Bad fault)) × ((v : Version) (more : List ℕ) → bytes ≢ letters ++ digit v ∷ more)

-- the event with steps in front
abbrev pub behind : Option Taken → StreamEvent → Option StreamEvent
behind (Some taken) x = Some (event (taken.steps ++ x.path) x.leaf)
behind None x = None

-- the bytes are a step each, and the longer event has these in front
pub record IsBehind (bytes : List ℕ) (x longer : StreamEvent) : Type 0 where
  pub steps : List Step
  pub spelled : bytes ≡ map step_code steps
  pub path : longer.path ≡ steps ++ x.path
  pub leaf : longer.leaf ≡ x.leaf
