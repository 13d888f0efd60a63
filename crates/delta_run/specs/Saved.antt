-- What a run of a file's program that leaves its state did, by how it ended. How a run stands behind the end of the
-- command, and which names change, say `IsBehind` and `ChangesState` of `commands/specs/Leaving.antt`.
use Rattle.std.specs.Prelude.{◌≡◌, ◌⊎◌, ◌<◌, ◌≤◌, ℕ, List, length, Option, Some}
use Rattle.port.specs.declared.link.Move.{Move}
use Rattle.port.specs.Moves.{bytes_read}
use Rattle.port.specs.Files.{Keeps}
use Rattle.event_word.specs.StreamEvent.{StreamEvent}
use Rattle.event_frame.specs.declared.version.Version.{Version}
use Rattle.event_frame.specs.Reading.{whole}
use Rattle.delta_tree.specs.SyntaxTree.{ProgramTree}
use Rattle.core_term.specs.CoreTerm.{CoreProgram}
use Rattle.kept_state.specs.KeptTree.{KeptTree}
use Rattle.kept_state.specs.KeptBytes.{kept_bytes, most_bytes}
use Rattle.kept_state.specs.KeptSizes.{HasSizes}
use Rattle.delta_end.specs.declared.objection.StateName.TheVariants.{Large}
use Rattle.delta_end.specs.declared.objection.Objection.TheVariants.{State}
use Rattle.delta_end.specs.declared.end.End.{End}
use Rattle.delta_end.specs.declared.end.End.TheVariants.{Done, Open, Objected}
use Rattle.checked_program.specs.Acceptance.{IsWritable}
use Rattle.delta_loop.specs.Meaning.{Meaning}
use Rattle.delta_loop.specs.Answer.{Adds, IsGood, IsCheap, WroteAll}
use Rattle.delta_output.specs.LoopMeaning.{meaning_of}
use Rattle.output_laws.specs.TreeOneShot.{one_shot_of}
use Rattle.commands.specs.Leaving.{IsBehind, IsKeptOf, Leaving, LeavesState as LeavesOfWay}
use Rattle.commands.specs.Saving.{way_of_tree}
use Rattle.delta_run.specs.Text.{RanText, RunsMoves}

-- to the log and to the shelf, where the file has this text: behind the end stands a run of it, or that no file was read
abbrev pub SavedText : List ℕ → ℕ → Version → List ℕ → Option (List Move) → Option (List Move) → Option (List ℕ) → Option (List ℕ)
    → Option (List ℕ → List ℕ) → Option (List ℕ → List ℕ) → End → Type 0
SavedText text budget v name old new left0 left1 files0 files1 end =
    Leaving (RanText text budget v old new left0 left1)
    (λ e. (p : ProgramTree) (c : CoreProgram) → IsWritable text v p c → LeavesOfWay (way_of_tree old new left0 left1 p c budget v) files1 name e)
    files0 files1 name end

-- what holds of the moves: they are those of a run of the text that ended so
abbrev pub SavesMoves : List ℕ → ℕ → Version → End → List Move → Type 0
SavesMoves text budget v end moves = (ran : End) × IsBehind end ran × RunsMoves text budget v ran moves

-- the bytes are those of what is to be kept of the text's program after all events of this input: a state that is typed
-- for it, goes on just as it does, and has the number of these events
pub record IsStateAfter (text : List ℕ) (v : Version) (input bytes : List ℕ) : Type 0 where
  pub program : ProgramTree
  pub core : CoreProgram
  pub accepted : IsWritable text v program core
  pub state : KeptTree
  pub places : List ℕ
  pub kept : IsKeptOf core (whole input) state
  pub has_bytes : bytes ≡ kept_bytes state places

-- the named file holds the bytes of such a state. They are no more than there may be, and its numbers have their sizes,
-- so they are those of no other typed state whose numbers have theirs
pub record IsLeft (text : List ℕ) (v : Version) (files : Option (List ℕ → List ℕ)) (name input bytes : List ℕ) : Type 0 where
  pub after : IsStateAfter text v input bytes
  pub sizes : HasSizes after.state
  pub few : length bytes ≤ most_bytes
  pub held : Keeps files name bytes

-- where the command ended well, so it is after what was read; and where it is told that the bytes are too many, they are
abbrev pub LeavesState : List ℕ → Version → Option (List ℕ → List ℕ) → List ℕ → End → List Move → Type 0
LeavesState text v files name Done moves = (bytes : List ℕ) × IsLeft text v files name (bytes_read moves) bytes
LeavesState text v files name Open moves = (bytes : List ℕ) × IsLeft text v files name (bytes_read moves) bytes
LeavesState text v files name (Objected (State Large at)) moves =
    (bytes : List ℕ) × IsStateAfter text v (bytes_read moves) bytes × (most_bytes < length bytes) × (at ≡ most_bytes)
LeavesState text v files name end moves = Unit {0}

-- over an input that is good in whole, with no event that stops the program: status 0 or 6, or 10 for a state that is
-- too large, with all of the output written, or 8
abbrev pub IsCompleteWithState : Meaning → Option (List ℕ) → Option (List Move) → Option (List Move) → ℕ → Type 0
IsCompleteWithState P left old new status =
    (w : Version) (all : List ℕ) (word : List StreamEvent) → left ≡ Some all → IsGood P w all word → IsCheap P word
    → (status ≡ 8) ⊎ (((status ≡ 0) ⊎ (status ≡ 6) ⊎ (status ≡ 10)) × Adds old new (WroteAll P word))

-- so it is for an accepted text
abbrev pub SavesWell : List ℕ → ℕ → Version → Option (List ℕ) → Option (List Move) → Option (List Move) → ℕ → Type 0
SavesWell text budget v left old new status =
    (p : ProgramTree) (c : CoreProgram) → IsWritable text v p c → IsCompleteWithState (meaning_of v budget (one_shot_of p)) left old new status
