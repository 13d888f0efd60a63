-- How bytes are read as events: an automaton that goes from place to place, a byte at a time.
use Rattle.std.specs.Prelude.{ℕ, zero, suc, ◌+◌, ◌/◌, ◌%◌, List, [], ◌∷◌, ◌++◌, Option, Some, None, ◌==◌, nat_le, if◌then◌else◌}
use Rattle.std.specs.Int.{w64, from_be_bytes, cast_signed}
use Rattle.event_word.specs.declared.event.Step.{Step}
use Rattle.event_word.specs.declared.event.Step.TheVariants.{Left, Right, First}
use Rattle.event_word.specs.declared.event.Leaf.{Leaf}
use Rattle.event_word.specs.declared.event.Leaf.TheVariants.{One, Int, Inl, Inr, Cut, Item, End}
use Rattle.event_word.specs.StreamEvent.{StreamEvent}
use Rattle.event_frame.specs.declared.version.Version.{Version}
use Rattle.event_frame.specs.declared.version.Version.TheVariants.{V1, V2}
use Rattle.event_frame.specs.declared.fault.FrameFault.{FrameFault}
use Rattle.event_frame.specs.declared.fault.FrameFault.TheVariants.{BadMagic, LongPath, BadStep, BadLeaf}
use Rattle.event_frame.specs.Frames.{longest}

-- where the next byte stands
pub data Place : Type 0 where
  -- in the header, before these letters and the digit
  AtLetters : List ℕ → Place
  -- at the number of steps, that is between frames
  Between : Version → Place
  -- at the steps: one and so many more are to come, after these
  AtSteps : Version → ℕ → List Step → Place
  -- at the leaf of this path
  AtLeaf : Version → List Step → Place
  -- in the number of this path's leaf: so many bytes are to come after the next, and these came
  AtNumber : Version → List Step → ℕ → List ℕ → Place

-- what a byte does in its place
pub data Move : Type 0 where
  Goes : Place → Move
  -- it ends a frame
  Gives : StreamEvent → Place → Move
  -- it can't stand there
  Faults : FrameFault → Move

-- the step that a number stands for
abbrev pub step_of : ℕ → Option Step
step_of n = if n == 1 then Some Left else (if n == 2 then Some Right else (if n == 3 then Some First else None))

-- the leaf without a number that a byte stands for
abbrev pub leaf_of : ℕ → Option Leaf
leaf_of n =
    if n == 0x10 then Some One else (if n == 0x12 then Some Inl else (if n == 0x13 then Some Inr else
    (if n == 0x14 then Some Cut else (if n == 0x15 then Some Item else (if n == 0x16 then Some End else None)))))

-- the parts of a byte, each of which can stand for a step: the whole byte, or two bits each from the highest
abbrev pub parts : Version → ℕ → List ℕ
parts V1 byte = byte ∷ []
parts V2 byte = byte / 64 ∷ (byte / 16 % 4) ∷ (byte / 4 % 4) ∷ (byte % 4) ∷ []

-- steps taken from a byte, and how many are still to come
pub record Taken : Type 0 where
  pub steps : List Step
  pub left : ℕ

-- a step in front of those taken
abbrev pub before : Step → Option Taken → Option Taken
before step (Some taken) = Some (record { steps = step ∷ taken.steps; left = taken.left })
before step None = None

-- the same, where the first part is a step
abbrev pub first_then : Option Step → Option Taken → Option Taken
first_then (Some step) taken = before step taken
first_then None taken = None

-- the steps in the parts of a byte, where so many are to come: behind the last stands nothing but 0
abbrev pub steps_in : ℕ → List ℕ → Option Taken
steps_in left [] = Some (record { steps = []; left = left })
steps_in zero (part ∷ more) = if part == 0 then steps_in zero more else None
steps_in (suc left) (part ∷ more) = first_then (step_of part) (steps_in left more)

-- the place where so many steps are to come after these
abbrev pub at_path : Version → ℕ → List Step → Place
at_path v zero path = AtLeaf v path
at_path v (suc more) path = AtSteps v more path

-- an event by its steps and its leaf
abbrev pub event : List Step → Leaf → StreamEvent
event path leaf = record { path = path; leaf = leaf }

-- behind a byte of steps, or else the fault
abbrev pub after_steps : Version → List Step → Option Taken → FrameFault → Move
after_steps v path (Some taken) fault = Goes (at_path v taken.left (path ++ taken.steps))
after_steps v path None fault = Faults fault

-- behind a leaf without a number, or else the fault
abbrev pub after_leaf : Version → List Step → Option Leaf → FrameFault → Move
after_leaf v path (Some leaf) fault = Gives (event path leaf) (Between v)
after_leaf v path None fault = Faults fault

-- what a byte does in its place, where so many bytes came before it
abbrev pub advance : Place → ℕ → ℕ → Move
advance (AtLetters (letter ∷ letters)) at byte = if byte == letter then Goes (AtLetters letters) else Faults (BadMagic at)
advance (AtLetters []) at byte =
    if byte == 0x31 then Goes (Between V1) else (if byte == 0x32 then Goes (Between V2) else Faults (BadMagic at))
advance (Between v) at byte = if nat_le byte (longest v) then Goes (at_path v byte []) else Faults (LongPath at byte)
advance (AtSteps v more path) at byte = after_steps v path (steps_in (suc more) (parts v byte)) (BadStep at byte)
advance (AtLeaf v path) at byte =
    if byte == 0x11 then Goes (AtNumber v path 7 []) else after_leaf v path (leaf_of byte) (BadLeaf at byte)
advance (AtNumber v path zero bytes) at byte =
    Gives (event path (Int (cast_signed w64 (from_be_bytes w64 (bytes ++ byte ∷ []))))) (Between v)
advance (AtNumber v path (suc more) bytes) at byte = Goes (AtNumber v path more (bytes ++ byte ∷ []))

-- how bytes end: after the header and whole frames, inside of the header or a frame, or at a byte that can't stand there
pub data Ending : Type 0 where
  Whole : Ending
  Inside : Ending
  Bad : FrameFault → Ending

-- the events of the whole frames, and how the bytes end
pub record Reading : Type 0 where
  pub word : List StreamEvent
  pub ending : Ending

-- no more events, and this end
abbrev pub stop : Ending → Reading
stop ending = record { word = []; ending = ending }

-- these events come before
abbrev pub add : List StreamEvent → Reading → Reading
add word reading = record { word = word ++ reading.word; ending = reading.ending }

-- how bytes end that end in this place
abbrev pub ending_at : Place → Ending
ending_at (Between v) = Whole
ending_at _ = Inside

-- what a move and then the bytes behind it give
abbrev pub go_on : Move → (Place → Reading) → Reading
go_on (Goes place) next = next place
go_on (Gives x place) next = add (x ∷ []) (next place)
go_on (Faults fault) next = stop (Bad fault)

-- what is read from a place on, where so many bytes came before
abbrev pub reading_from : Place → ℕ → List ℕ → Reading
reading_from place at [] = stop (ending_at place)
reading_from place at (byte ∷ bytes) = go_on (advance place at byte) (λ next. reading_from next (at + 1) bytes)

-- the place at which a stream begins
abbrev pub start : Place
start = AtLetters (0x44 ∷ 0x45 ∷ 0x56 ∷ [])

-- what is read of a stream
abbrev pub reading : List ℕ → Reading
reading bytes = reading_from start 0 bytes

-- the events of the longest front of the bytes that is a header and whole frames of its version
abbrev pub whole : List ℕ → List StreamEvent
whole bytes = (reading bytes).word

-- how the bytes end
abbrev pub ending : List ℕ → Ending
ending bytes = (reading bytes).ending
