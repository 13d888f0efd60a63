-- What a run did that goes on from the state in a file, by how it ended.
--
-- Choices that are not obvious:
-- - Whose bytes the state's are isn't asked. They are those of some typed state of the text's program, and then the run
--   means what that state does; or of none, and then it is told what is wrong with them first.
use Rattle.std.specs.Prelude.{◌≡◌, ◌⊎◌, ℕ, List, [], Option, Some, None}
use Rattle.port.specs.declared.link.Move.{Move}
use Rattle.event_frame.specs.declared.version.Version.{Version}
use Rattle.delta_tree.specs.SyntaxTree.{ProgramTree}
use Rattle.core_term.specs.CoreTerm.{CoreProgram}
use Rattle.kept_state.specs.KeptTree.{KeptTree}
use Rattle.delta_end.specs.declared.objection.StateName.{StateName}
use Rattle.delta_end.specs.declared.objection.Objection.TheVariants.{State}
use Rattle.delta_end.specs.declared.end.End.{End}
use Rattle.delta_end.specs.declared.end.End.TheVariants.{Usage, Refused, FileFailed, Memory, Objected}
use Rattle.checked_program.specs.Acceptance.{IsWritable, IsRefusedToWrite}
use Rattle.delta_loop.specs.Meaning.{Meaning}
use Rattle.delta_loop.specs.History.{IsUntouched}
use Rattle.delta_loop.specs.Output.{due}
use Rattle.delta_loop.specs.Prompt.{IsPrompt}
use Rattle.delta_loop.specs.Answer.{AtReturn, IsComplete}
use Rattle.delta_runner.specs.KeptOneShot.{meaning_since}
use Rattle.commands.specs.Resuming.{IsTypedAs, IsWrong}
use Rattle.commands.specs.Texts.{ResumesText}
use Rattle.delta_run.specs.Settled.{IsOverInput, IsSettled}

-- to the log, where the file has this text and the shelf holds these files
abbrev pub ResumedText : List ℕ → ℕ → Version → Option (List ℕ → List ℕ) → List ℕ → Option (List Move) → Option (List Move) → Option (List ℕ)
    → Option (List ℕ) → End → Type 0
ResumedText text budget v files name old new left0 left1 FileFailed = IsUntouched old new left0 left1
ResumedText text budget v files name old new left0 left1 end = ResumesText text budget v files name old new left0 left1 end

-- the text is accepted and the bytes are those of a typed state of its program, and this is what the program means to
-- the loop from there on: at each event, the frames of the increment of what the state gives
pub record IsMeantSince (text bytes : List ℕ) (budget : ℕ) (v : Version) (P : Meaning) : Type 0 where
  pub program : ProgramTree
  pub core : CoreProgram
  pub accepted : IsWritable text v program core
  pub state : KeptTree
  pub typed : IsTypedAs core bytes state
  pub means : P ≡ meaning_since v budget core state

-- no move, or before each read what was written is the frames of the successive increments of what the state gives, on
-- the accepted events of the whole frames in what was read
abbrev pub ResumesPromptly : List ℕ → List ℕ → ℕ → Version → List Move → Type 0
ResumesPromptly text bytes budget v moves = (moves ≡ []) ⊎ ((P : Meaning) × IsMeantSince text bytes budget v P × IsPrompt (due P) moves)

-- the program of the text went on promptly, and ended so
abbrev pub GoesOnSo : List ℕ → List ℕ → ℕ → Version → End → List Move → Type 0
GoesOnSo text bytes budget v end moves = (P : Meaning) × IsMeantSince text bytes budget v P × IsPrompt (due P) moves × AtReturn P end moves

-- the text is accepted, and this is wrong first with the bytes as those of a state of its program
pub record IsNoState (text bytes : List ℕ) (v : Version) (name : StateName) (at : ℕ) : Type 0 where
  pub program : ProgramTree
  pub core : CoreProgram
  pub accepted : IsWritable text v program core
  pub wrong : IsWrong core bytes name at

-- what holds of the moves; there are none where a file failed, the text or the state is refused, or memory ran out
-- before the program went on
abbrev pub ResumesMoves : List ℕ → List ℕ → ℕ → Version → End → List Move → Type 0
ResumesMoves text bytes budget v Usage moves = ⊥
ResumesMoves text bytes budget v FileFailed moves = moves ≡ []
ResumesMoves text bytes budget v (Refused None) moves = ⊥
ResumesMoves text bytes budget v (Refused (Some why)) moves = IsRefusedToWrite text v why × (moves ≡ [])
ResumesMoves text bytes budget v (Objected (State name at)) moves = IsNoState text bytes v name at × (moves ≡ [])
ResumesMoves text bytes budget v (Objected what) moves = ⊥
ResumesMoves text bytes budget v Memory moves = (moves ≡ []) ⊎ GoesOnSo text bytes budget v Memory moves
ResumesMoves text bytes budget v end moves = GoesOnSo text bytes budget v end moves

-- an accepted text: memory ran out, or the state is refused, and then its bytes are those of no typed state of the
-- program, or they are those of one; and then, over an input that is good in whole for that state, with no event that
-- stops it, the status is 0 or 6 with all of the output written, or 8
abbrev pub ResumesWell : List ℕ → List ℕ → ℕ → Version → Option (List ℕ) → Option (List Move) → Option (List Move) → ℕ → Type 0
ResumesWell text bytes budget v left old new status =
    (p : ProgramTree) (c : CoreProgram) → IsWritable text v p c
    → (status ≡ 8) ⊎ ((status ≡ 10) × ((k : KeptTree) → IsTypedAs c bytes k → ⊥))
    ⊎ ((k : KeptTree) × IsTypedAs c bytes k × IsComplete (meaning_since v budget c k) left old new status)

-- an accepted text with bytes that are those of no typed state of its program: status 10, or 8
abbrev pub RefusesState : List ℕ → List ℕ → Version → ℕ → Type 0
RefusesState text bytes v status =
    (p : ProgramTree) (c : CoreProgram) → IsWritable text v p c → ((k : KeptTree) → IsTypedAs c bytes k → ⊥) → (status ≡ 8) ⊎ (status ≡ 10)

-- where it ended with 0, 4, 6 or 9 it is settled by its whole input, whatever the pieces and the budget
abbrev pub ResumesSettled : List ℕ → List ℕ → Version → Option (List ℕ) → Option (List Move) → Option (List Move) → End → Type 0
ResumesSettled text bytes v left old new end =
    (p : ProgramTree) (c : CoreProgram) → IsWritable text v p c → IsOverInput end
    → (k : KeptTree) × IsTypedAs c bytes k × ((all : List ℕ) → left ≡ Some all → (budget : ℕ) → IsSettled (meaning_since v budget c k) all old new end)
