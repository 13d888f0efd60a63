-- What a program writes for a word of events, and what is due for the bytes that were read.
use Rattle.std.specs.Prelude.{ℕ, List, [], ◌∷◌, ◌++◌, Option, Some, None}
use Rattle.event_word.specs.StreamEvent.{StreamEvent}
use Rattle.event_word.specs.declared.fault.EventFault.{EventFault}
use Rattle.event_frame.specs.declared.version.Version.{Version}
use Rattle.event_frame.specs.Frames.{header}
use Rattle.event_frame.specs.Reading.{whole}
use Rattle.delta_loop.specs.Meaning.{Meaning}

-- an event and those after it, or nothing where the event has a fault
abbrev pub up_to_fault : Option EventFault → StreamEvent → List StreamEvent → List StreamEvent
up_to_fault None x word = x ∷ word
up_to_fault (Some fault) x word = []

-- the longest front of a word, after the events before it, in which no event has a fault
abbrev pub accepted_after : Meaning → List StreamEvent → List StreamEvent → List StreamEvent
accepted_after P before [] = []
accepted_after P before (x ∷ word) = up_to_fault (P.fault before x) x (accepted_after P (before ++ x ∷ []) word)

-- the longest front of a word that the program accepts
abbrev pub accepted : Meaning → List StreamEvent → List StreamEvent
accepted P word = accepted_after P [] word

-- the answer to each event of a word in turn, after the events before it
abbrev pub answers_after : Meaning → List StreamEvent → List StreamEvent → List ℕ
answers_after P before [] = []
answers_after P before (x ∷ word) = P.answer before x ++ answers_after P (before ++ x ∷ []) word

-- the header of a version, or nothing
abbrev pub opening : Option Version → List ℕ
opening None = []
opening (Some v) = header v

-- the header, what comes first, and then each answer
abbrev pub output : Meaning → List StreamEvent → List ℕ
output P word = (opening P.version ++ P.first) ++ answers_after P [] word

-- what is to be written once these bytes were read: the output of the accepted events of the whole frames
abbrev pub due : Meaning → List ℕ → List ℕ
due P bytes = output P (accepted P (whole bytes))
