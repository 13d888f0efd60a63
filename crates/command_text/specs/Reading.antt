-- How bytes are read as lines of events. A line counts as read once its line feed (10) was read, once the input ended with a byte of
-- it, or once 257 bytes of it were read without a line feed; the first line that is refused ends the reading, at its place in bytes.
use Rattle.std.specs.Prelude.{ℕ, ◌+◌, ◌==◌, Bool, List, [], ◌∷◌, ◌++◌, length, Option, Some, None, Result, Ok, Err, nat_le, if◌then◌else◌}
use Rattle.event_word.specs.StreamEvent.{StreamEvent}
use Rattle.event_frame.specs.declared.version.Version.{Version}
use Rattle.event_frame.specs.Frames.{longest, header, frames}
use Rattle.event_text.specs.declared.fault.LineFault.{LineFault}
use Rattle.event_text.specs.declared.fault.LineFault.TheVariants.{LongPath}
use Rattle.event_text.specs.Reading.{read}
use Rattle.command_text.specs.declared.fault.LineRefusal.{LineRefusal}
use Rattle.command_text.specs.declared.fault.LineRefusal.TheVariants.{Line, LongLine}
use Rattle.command_text.specs.LineState.{LineState}

-- the event of a line, where the version has a frame for it
abbrev pub fitting : Version → Result StreamEvent LineFault → Result StreamEvent LineRefusal
fitting v (Ok x) = if nat_le (length x.path) (longest v) then Ok x else Err (Line LongPath)
fitting v (Err fault) = Err (Line fault)

abbrev pub event_of : Version → List ℕ → Result StreamEvent LineRefusal
event_of v line = fitting v (read line)

-- how bytes end: in a line, maybe before its first byte, or at a refused line, with its place
pub data Ending : Type 0 where
  Within : LineState → Ending
  Refused : LineRefusal → ℕ → Ending

-- the events of the lines that count as read, and how the bytes end
pub record Taken : Type 0 where
  pub word : List StreamEvent
  pub ending : Ending

-- events in front of those of the bytes behind them
abbrev pub behind : List StreamEvent → Taken → Taken
behind word taken = record taken { word = word ++ taken.word }

-- no event, and so ends
abbrev pub stop : Ending → Taken
stop ending = record { word = []; ending = ending }

-- a line that counts as read at this place, and what stands behind it
abbrev pub line_then : Result StreamEvent LineRefusal → ℕ → Taken → Taken
line_then (Ok x) place rest = behind (x ∷ []) rest
line_then (Err refusal) place rest = stop (Refused refusal place)

-- the place of the line behind
abbrev pub next_line : LineState → LineState
next_line s = record { place = s.place + length s.line + 1; line = [] }

-- a line with one byte more
abbrev pub with_byte : LineState → ℕ → LineState
with_byte s byte = record s { line = s.line ++ byte ∷ [] }

-- the bytes from inside a line on
abbrev pub taken_from : Version → LineState → List ℕ → Taken
taken_from v s [] = stop (Within s)
taken_from v s (byte ∷ bytes) =
    if byte == 10 then line_then (event_of v s.line) s.place (taken_from v (next_line s) bytes)
    else (if length s.line == 256 then stop (Refused LongLine s.place) else taken_from v (with_byte s byte) bytes)

-- at the beginning of an input
abbrev pub first_line : LineState
first_line = record { place = 0; line = [] }

-- an input that hasn't ended
abbrev pub taken : Version → List ℕ → Taken
taken v bytes = taken_from v first_line bytes

-- where the input ends in a line with a byte, the line counts as read
abbrev pub last_line : Version → ℕ → List ℕ → Taken
last_line v place [] = stop (Within (record { place = place; line = [] }))
last_line v place (byte ∷ line) =
    line_then (event_of v (byte ∷ line)) place (stop (Within (next_line (record { place = place; line = byte ∷ line }))))

abbrev pub at_end : Version → Ending → Taken
at_end v (Within s) = last_line v s.place s.line
at_end v (Refused refusal place) = stop (Refused refusal place)

-- an input that has ended, or not
abbrev pub taken_in_all : Version → Bool → List ℕ → Taken
taken_in_all v ended bytes = if ended then behind (taken v bytes).word (at_end v (taken v bytes).ending) else taken v bytes

-- what is due: the header, and the frames of the events
abbrev pub due : Version → Bool → List ℕ → List ℕ
due v ended bytes = header v ++ frames v (taken_in_all v ended bytes).word

-- the refused line and its place
abbrev pub refused_in : Ending → Option (LineRefusal × ℕ)
refused_in (Within s) = None
refused_in (Refused refusal place) = Some (refusal, place)

abbrev pub finding : Version → Bool → List ℕ → Option (LineRefusal × ℕ)
finding v ended bytes = refused_in (taken_in_all v ended bytes).ending
