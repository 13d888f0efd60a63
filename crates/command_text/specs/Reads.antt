-- What a reader of lines answers, by what the bytes come to.
use Rattle.std.specs.Prelude.{◌≡◌, ⊤, ℕ, List, [], ◌∷◌, Option, Some, None, Result, Ok, Err}
use Rattle.event_word.specs.StreamEvent.{StreamEvent}
use Rattle.event_frame.specs.declared.version.Version.{Version}
use Rattle.command_text.specs.declared.fault.LineRefusal.{LineRefusal}
use Rattle.command_text.specs.declared.line_reader.ReadStop.{ReadStop}
use Rattle.command_text.specs.declared.line_reader.ReadStop.TheVariants as read_stop
use Rattle.command_text.specs.LineState.{LineState}
use Rattle.command_text.specs.Reading.{Taken, Refused, Within, taken_from, behind, stop, next_line, last_line}

-- the event that was found, or none, and then what the bytes behind come to
abbrev pub goes_on : Version → Option StreamEvent → LineState → List ℕ → Taken
goes_on v None s more = taken_from v s more
goes_on v (Some x) s more = behind (x ∷ []) (taken_from v s more)

-- the reading ends at a refused line of this place; want of memory says nothing
abbrev pub Ends : ReadStop → ℕ → Taken → Type 0
Ends read_stop.Memory place taken = ⊤
Ends (read_stop.Refused refusal) place taken = taken ≡ stop (Refused refusal place)

-- what the last line comes to, where the input ended
abbrev pub IsLast : Version → LineState → Result (Option StreamEvent) LineRefusal → Type 0
IsLast v s (Ok None) = last_line v s.place s.line ≡ stop (Within s)
IsLast v s (Ok (Some x)) = last_line v s.place s.line ≡ behind (x ∷ []) (stop (Within (next_line s)))
IsLast v s (Err refusal) = last_line v s.place s.line ≡ stop (Refused refusal s.place)
