-- What the making of lines from frames did to a link, by how it ended.
use Rattle.std.specs.Prelude.{◌≡◌, ◌⊎◌, ℕ, List, Option, Some}
use Rattle.port.specs.declared.link.Move.{Move}
use Rattle.port.specs.Moves.{bytes_read, bytes_written}
use Rattle.event_word.specs.StreamEvent.{StreamEvent}
use Rattle.event_frame.specs.declared.version.Version.{Version}
use Rattle.delta_end.specs.declared.end.End.{End}
use Rattle.delta_loop.specs.Output.{due}
use Rattle.delta_loop.specs.Prompt.{IsPrompt, has_ended}
use Rattle.delta_loop.specs.Return.{MayEnd}
use Rattle.delta_loop.specs.Answer.{Adds, IsGood, ReadsWell}
use Rattle.command_text.specs.Lines.{lines, lines_of_frames}

-- before each read the lines of all whole frames were written, nothing was read after the input's end, no more was read than may be, and the moves end so
pub record MakesLines (end : End) (moves : List Move) : Type 0 where
  pub prompt : IsPrompt (due lines_of_frames) moves
  pub reads : ReadsWell end moves
  pub ends : MayEnd lines_of_frames (bytes_read moves) (has_ended moves) (bytes_written moves) end

-- the lines of the word were written, and nothing else
abbrev pub WroteLines : List StreamEvent → List Move → Type 0
WroteLines word moves = bytes_written moves ≡ lines word

-- over a header and whole frames the run is done, with all lines written, or memory ran out
abbrev pub IsLined : Option (List ℕ) → Option (List Move) → Option (List Move) → ℕ → Type 0
IsLined left old new status =
    (v : Version) (all : List ℕ) (word : List StreamEvent) → left ≡ Some all → IsGood lines_of_frames v all word
    → (status ≡ 8) ⊎ ((status ≡ 0) × Adds old new (WroteLines word))
