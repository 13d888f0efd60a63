-- What is wrong with an input: the first fault, with its place in bytes.
use Rattle.std.specs.Prelude.{ℕ, List, [], ◌∷◌, ◌++◌, Bool, Option, Some, None, ◌==◌, if◌then◌else◌, length}
use Rattle.event_word.specs.StreamEvent.{StreamEvent}
use Rattle.event_word.specs.declared.fault.EventFault.{EventFault}
use Rattle.event_frame.specs.declared.version.Version.{Version}
use Rattle.event_frame.specs.declared.version.Version.TheVariants.{V1, V2}
use Rattle.event_frame.specs.declared.fault.FrameFault.TheVariants.{Truncated}
use Rattle.event_frame.specs.Frames.{header, frames}
use Rattle.event_frame.specs.Reading.{Ending, Whole, Inside, Bad, whole, ending}
use Rattle.delta_end.specs.declared.end.InputFault.{InputFault}
use Rattle.delta_end.specs.declared.end.InputFault.TheVariants.{Frame, Event}
use Rattle.delta_loop.specs.Meaning.{Meaning}

-- the version of a header, told by its last byte
abbrev pub version_of : List ℕ → Version
version_of (a ∷ b ∷ c ∷ digit ∷ bytes) = if digit == 0x32 then V2 else V1
version_of _ = V1

-- the place behind the header of the bytes and the frames of a word
abbrev pub place_in : List ℕ → List StreamEvent → ℕ
place_in bytes word = length (header (version_of bytes) ++ frames (version_of bytes) word)

-- the fault of an event at this place, or else what is found behind it
abbrev pub fault_or : Option EventFault → ℕ → Option InputFault → Option InputFault
fault_or (Some fault) place rest = Some (Event fault place)
fault_or None place rest = rest

-- the first event of a word that has a fault, at the place of its frame, or else what is found behind the word
abbrev pub event_finding : Meaning → List ℕ → List StreamEvent → List StreamEvent → Option InputFault → Option InputFault
event_finding P bytes before [] rest = rest
event_finding P bytes before (x ∷ word) rest =
    fault_or (P.fault before x) (place_in bytes before) (event_finding P bytes (before ++ x ∷ []) word rest)

-- a byte that can't stand in its place, or, where the input ended, a header or frame that is cut off
abbrev pub byte_finding : Ending → Bool → ℕ → Option InputFault
byte_finding Whole ended count = None
byte_finding Inside ended count = if ended then Some (Frame (Truncated count)) else None
byte_finding (Bad fault) ended count = Some (Frame fault)

-- what is wrong with the bytes of an input that has ended or not: an event, then a byte, then an early end
abbrev pub finding : Meaning → List ℕ → Bool → Option InputFault
finding P bytes ended = event_finding P bytes [] (whole bytes) (byte_finding (ending bytes) ended (length bytes))
