-- What the evaluation of a file's program did, by how it ended.
use Rattle.std.specs.Prelude.{◌≡◌, ◌⊎◌, ℕ, ◌<◌, ◌≤◌, List, [], Option, Some, None}
use Rattle.port.specs.declared.link.Move.{Move}
use Rattle.port.specs.Moves.{bytes_read, bytes_written}
use Rattle.event_word.specs.StreamEvent.{StreamEvent}
use Rattle.event_frame.specs.declared.version.Version.{Version}
use Rattle.delta_tree.specs.SyntaxTree.{ProgramTree}
use Rattle.core_term.specs.CoreTerm.{CoreProgram}
use Rattle.delta_end.specs.declared.end.End.{End}
use Rattle.delta_end.specs.declared.end.End.TheVariants.{Refused, FileFailed, Memory}
use Rattle.program_refusal.specs.declared.refusal.Refusal.{Refusal}
use Rattle.delta_loop.specs.Answer.{Adds, IsGood}
use Rattle.delta_loop.specs.Prompt.{IsPrompt, has_ended}
use Rattle.checked_program.specs.Acceptance.{IsWritable, IsRefusedToWrite}
use Rattle.commands.specs.Gathering.{gathering}
use Rattle.commands.specs.Evaluating.{input_of, calls_on, evaluation, MayEnd, EvaluatesText}
use Rattle.delta_loop.specs.History.{IsUntouched}

-- to the log, where the file has this text
abbrev pub EvaluatedText : List ℕ → ℕ → Version → Option (List Move) → Option (List Move) → Option (List ℕ) → Option (List ℕ) → End → Type 0
EvaluatedText text budget v old new left0 left1 FileFailed = IsUntouched old new left0 left1
EvaluatedText text budget v old new left0 left1 end = EvaluatesText text budget v old new left0 left1 end

-- the program of the text was evaluated: before each read nothing was written, and the moves end so
pub record EvaluatesMoves (text : List ℕ) (budget : ℕ) (v : Version) (end : End) (moves : List Move) : Type 0 where
  pub program : ProgramTree
  pub core : CoreProgram
  pub accepted : IsWritable text v program core
  pub late : IsPrompt (λ bytes. []) moves
  pub ends : MayEnd program budget v (bytes_read moves) (has_ended moves) (bytes_written moves) end

-- by how it ended; there are no moves where the file failed, the text is refused, or memory ran out before the input was read
abbrev pub EvalsText : List ℕ → ℕ → Version → End → List Move → Type 0
EvalsText text budget v FileFailed moves = moves ≡ []
EvalsText text budget v (Refused None) moves = ⊥
EvalsText text budget v (Refused (Some why)) moves = IsRefusedToWrite text v why × (moves ≡ [])
EvalsText text budget v Memory moves = (moves ≡ []) ⊎ EvaluatesMoves text budget v Memory moves
EvalsText text budget v end moves = EvaluatesMoves text budget v end moves

-- an accepted text over an input that is good in whole, with no more calls than the budget: status 0 or 6 with all of the output written, or 8
abbrev pub EvalsWell : List ℕ → ℕ → Version → Option (List ℕ) → Option (List Move) → Option (List Move) → ℕ → Type 0
EvalsWell text budget v left old new status =
    (p : ProgramTree) (c : CoreProgram) → IsWritable text v p c → (w : Version) (all : List ℕ) (word : List StreamEvent) → left ≡ Some all
    → IsGood (gathering (input_of p)) w all word → calls_on p word ≤ budget
    → (status ≡ 8) ⊎ (((status ≡ 0) ⊎ (status ≡ 6)) × Adds old new (λ moves. bytes_written moves ≡ evaluation p v word))

-- with more calls than that: status 5 with nothing written, or 8
abbrev pub StopsWell : List ℕ → ℕ → Version → Option (List ℕ) → Option (List Move) → Option (List Move) → ℕ → Type 0
StopsWell text budget v left old new status =
    (p : ProgramTree) (c : CoreProgram) → IsWritable text v p c → (w : Version) (all : List ℕ) (word : List StreamEvent) → left ≡ Some all
    → IsGood (gathering (input_of p)) w all word → budget < calls_on p word
    → (status ≡ 8) ⊎ ((status ≡ 5) × Adds old new (λ moves. bytes_written moves ≡ []))

-- a text that is refused gives status 3, or 8
abbrev pub RefusesUnwritable : List ℕ → Version → ℕ → Type 0
RefusesUnwritable text v status = (why : Refusal) → IsRefusedToWrite text v why → (status ≡ 8) ⊎ (status ≡ 3)
