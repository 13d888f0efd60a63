-- The laws of lines.
use Rattle.std.specs.Prelude.{◌≡◌, ◌↔◌, ℕ, List, Ok}
use Rattle.event_word.specs.StreamEvent.{StreamEvent}
use Rattle.event_text.specs.Lines.{line_of, Fits}
use Rattle.event_text.specs.Spells.{Spells}
use Rattle.event_text.specs.Reading.{read}

-- what is written is read as the same event
abbrev pub LinesAreRead : Type 0
LinesAreRead = (x : StreamEvent) → Fits x → read (line_of x) ≡ Ok x

-- a line is read as an event exactly where it spells that event and the event is within the limits
abbrev pub ReadIsSpelled : Type 0
ReadIsSpelled = (line : List ℕ) (x : StreamEvent) → (read line ≡ Ok x) ↔ (Spells x line × Fits x)

-- no two events have one line
abbrev pub NoLineIsShared : Type 0
NoLineIsShared = (x y : StreamEvent) → Fits x → Fits y → line_of x ≡ line_of y → x ≡ y
