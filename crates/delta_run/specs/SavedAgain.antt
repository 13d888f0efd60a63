-- What a run did that goes on from the state in a file and leaves its own, by how it ended. How it stands behind the end
-- of the command, and which names change, say `IsBehind` and `ChangesState` of `commands/specs/Leaving.antt`.
--
-- Choices that are not obvious:
-- - The old state is read before the new one is written. So both may have one name.
-- - The new state is what is to be kept of the old one, whoever wrote that. Where it was left of the text's program after
--   some input, the new one is that of the program after both inputs (`KeptFurther` of `Laws`).
use Rattle.std.specs.Prelude.{◌≡◌, ◌⊎◌, ◌<◌, ◌≤◌, ◌+◌, ◌^◌, ℕ, List, length, Option}
use Rattle.port.specs.declared.link.Move.{Move}
use Rattle.port.specs.Moves.{bytes_read}
use Rattle.port.specs.Files.{Keeps}
use Rattle.event_frame.specs.declared.version.Version.{Version}
use Rattle.event_frame.specs.Reading.{whole}
use Rattle.delta_tree.specs.SyntaxTree.{ProgramTree}
use Rattle.core_term.specs.CoreTerm.{CoreProgram}
use Rattle.kept_state.specs.KeptTree.{KeptTree}
use Rattle.kept_state.specs.KeptBytes.{kept_bytes, most_bytes}
use Rattle.kept_state.specs.KeptSizes.{HasSizes}
use Rattle.delta_end.specs.declared.objection.StateName.TheVariants.{Large}
use Rattle.delta_end.specs.declared.objection.Objection.TheVariants.{State}
use Rattle.delta_end.specs.declared.end.End.{End}
use Rattle.delta_end.specs.declared.end.End.TheVariants.{Done, Open, Objected}
use Rattle.checked_program.specs.Acceptance.{IsWritable}
use Rattle.delta_runner.specs.KeptOneShot.{meaning_since}
use Rattle.commands.specs.Leaving.{IsBehind, IsKeptAgain, Leaving}
use Rattle.commands.specs.Resuming.{IsTypedAs}
use Rattle.commands.specs.Saving.{LeavesAgain}
use Rattle.delta_run.specs.Saved.{IsCompleteWithState}
use Rattle.delta_run.specs.Resumed.{ResumedText, ResumesMoves}

-- to the log and to the shelf, where the file has this text and the old state is in the file `from`: behind the end stands
-- a run that goes on from that state, or that the text or the state is refused, or that a file wasn't read
abbrev pub SavedAgainText : List ℕ → ℕ → Version → List ℕ → List ℕ → Option (List Move) → Option (List Move) → Option (List ℕ) → Option (List ℕ)
    → Option (List ℕ → List ℕ) → Option (List ℕ → List ℕ) → End → Type 0
SavedAgainText text budget v from name old new left0 left1 files0 files1 end =
    Leaving (ResumedText text budget v files0 from old new left0 left1)
    (λ e. (p : ProgramTree) (c : CoreProgram) → IsWritable text v p c → LeavesAgain old new left0 left1 c budget v files0 from name files1 e)
    files0 files1 name end

-- what holds of the moves: they are those of a run that goes on from these bytes, and ended so
abbrev pub SavesAgainMoves : List ℕ → List ℕ → ℕ → Version → End → List Move → Type 0
SavesAgainMoves text old budget v end moves = (ran : End) × IsBehind end ran × ResumesMoves text old budget v ran moves

-- the old bytes are those of a typed state of the text's program, and the bytes those of what is to be kept of that state
-- after all events of this input: a state that is typed for the program too, goes on just as the old one does, and has the
-- number of the events that came before the old one and since
pub record IsStateAgain (text old : List ℕ) (v : Version) (input bytes : List ℕ) : Type 0 where
  pub program : ProgramTree
  pub core : CoreProgram
  pub accepted : IsWritable text v program core
  pub before : KeptTree
  pub typed : IsTypedAs core old before
  pub state : KeptTree
  pub places : List ℕ
  pub kept : IsKeptAgain core before (whole input) state
  pub has_bytes : bytes ≡ kept_bytes state places

-- the named file holds the bytes of such a state. They are no more than there may be, and its numbers have their sizes,
-- so they are those of no other typed state whose numbers have theirs
pub record IsLeftAgain (text old : List ℕ) (v : Version) (files : Option (List ℕ → List ℕ)) (name input bytes : List ℕ) : Type 0 where
  pub after : IsStateAgain text old v input bytes
  pub sizes : HasSizes after.state
  pub few : length bytes ≤ most_bytes
  pub held : Keeps files name bytes

-- the old bytes are those of a typed state of the text's program, and with the events that came before that state more
-- than 2^41 came
pub record IsTooLongSince (text old : List ℕ) (v : Version) (input : List ℕ) : Type 0 where
  pub program : ProgramTree
  pub core : CoreProgram
  pub accepted : IsWritable text v program core
  pub before : KeptTree
  pub typed : IsTypedAs core old before
  pub far : 2 ^ 41 < before.events + length (whole input)

-- what is to be kept is too large: its bytes are too many, or too many events came
abbrev pub IsTooLargeAgain : List ℕ → List ℕ → Version → List ℕ → Type 0
IsTooLargeAgain text old v input = ((bytes : List ℕ) × IsStateAgain text old v input bytes × (most_bytes < length bytes)) ⊎ IsTooLongSince text old v input

-- where the command ended well, so it is after what was read; and where it is told that the new state is too large, it is
abbrev pub LeavesStateAgain : List ℕ → List ℕ → Version → Option (List ℕ → List ℕ) → List ℕ → End → List Move → Type 0
LeavesStateAgain text old v files name Done moves = (bytes : List ℕ) × IsLeftAgain text old v files name (bytes_read moves) bytes
LeavesStateAgain text old v files name Open moves = (bytes : List ℕ) × IsLeftAgain text old v files name (bytes_read moves) bytes
LeavesStateAgain text old v files name (Objected (State Large at)) moves = IsTooLargeAgain text old v (bytes_read moves) × (at ≡ most_bytes)
LeavesStateAgain text old v files name end moves = Unit {0}

-- an accepted text: memory ran out, or the old state is refused, and then its bytes are those of no typed state of the
-- program, or they are those of one; and then, over an input that is good in whole for that state, with no event that
-- stops it, the status is 0 or 6, or 10 for a new state that is too large, with all of the output written, or 8
abbrev pub SavesAgainWell : List ℕ → List ℕ → ℕ → Version → Option (List ℕ) → Option (List Move) → Option (List Move) → ℕ → Type 0
SavesAgainWell text bytes budget v left old new status =
    (p : ProgramTree) (c : CoreProgram) → IsWritable text v p c
    → (status ≡ 8) ⊎ ((status ≡ 10) × ((k : KeptTree) → IsTypedAs c bytes k → ⊥))
    ⊎ ((k : KeptTree) × IsTypedAs c bytes k × IsCompleteWithState (meaning_since v budget c k) left old new status)
