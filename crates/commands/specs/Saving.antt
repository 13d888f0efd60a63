-- What the commands that save do with a text, by how they ended: one runs its program from the start, the other goes on
-- from a state.
use Rattle.std.specs.Prelude.{ℕ, List, Option}
use Rattle.port.specs.declared.link.Move.{Move}
use Rattle.event_frame.specs.declared.version.Version.{Version}
use Rattle.delta_tree.specs.SyntaxTree.{ProgramTree}
use Rattle.core_term.specs.CoreTerm.{CoreProgram}
use Rattle.kept_state.specs.KeptTree.{KeptTree}
use Rattle.delta_end.specs.declared.end.End.{End}
use Rattle.checked_program.specs.Acceptance.{IsWritable}
use Rattle.delta_output.specs.LoopMeaning.{meaning_of}
use Rattle.output_laws.specs.TreeOneShot.{one_shot_of}
use Rattle.delta_runner.specs.KeptOneShot.{meaning_since}
use Rattle.commands.specs.Running.{RunsText}
use Rattle.commands.specs.Resuming.{IsTypedAs, OfState, Resumes, ResumesFile}
use Rattle.commands.specs.Texts.{ResumesText}
use Rattle.commands.specs.Leaving.{from_start, from_kept, Way, LeavesState, Leaving}

-- what is told of the link before and after a run, and what it left of the input
module _ (old new : Option (List Move)) (left0 left1 : Option (List ℕ)) where
  -- a run of a program, which writes, at each event, the frames of the increment of its one-shot meaning
  abbrev pub way_of_tree : ProgramTree → CoreProgram → ℕ → Version → Way
  way_of_tree p c budget v = record { meaning = meaning_of v budget (one_shot_of p); origin = from_start c; old = old; new = new; left0 = left0; left1 = left1 }

  -- and one that goes on from a kept state
  abbrev pub way_since : CoreProgram → KeptTree → ℕ → Version → Way
  way_since c k budget v = record { meaning = meaning_since v budget c k; origin = from_kept c k; old = old; new = new; left0 = left0; left1 = left1 }

  -- a run of the text stands behind the end, and what is left is the state of its program
  abbrev pub SavesText : List ℕ → ℕ → Version → List ℕ → Option (List ℕ → List ℕ) → Option (List ℕ → List ℕ) → End → Type 0
  SavesText text budget v name files0 files1 end =
      Leaving (RunsText text budget v old new left0 left1)
      (λ e. (p : ProgramTree) (c : CoreProgram) → IsWritable text v p c → LeavesState (way_of_tree p c budget v) files1 name e) files0 files1 name end

  -- what is left is the state of what goes on from the typed state of this program that the file is
  abbrev pub LeavesAgain : CoreProgram → ℕ → Version → Option (List ℕ → List ℕ) → List ℕ → List ℕ → Option (List ℕ → List ℕ) → End → Type 0
  LeavesAgain c budget v files0 from name files1 end =
      OfState files0 from (λ bytes. (k : KeptTree) → IsTypedAs c bytes k → LeavesState (way_since c k budget v) files1 name end)

  -- a run stands behind the end that goes on from the state that these bytes are, and what is left is its own
  abbrev pub SavesBytes : CoreProgram → ℕ → Version → List ℕ → List ℕ → Option (List ℕ → List ℕ) → Option (List ℕ → List ℕ) → End → Type 0
  SavesBytes c budget v bytes name files0 files1 end =
      Leaving (Resumes c budget v bytes old new left0 left1) (λ e. (k : KeptTree) → IsTypedAs c bytes k → LeavesState (way_since c k budget v) files1 name e)
      files0 files1 name end

  -- a run stands behind the end that goes on from the state that the file is
  abbrev pub SavesFrom : CoreProgram → ℕ → Version → List ℕ → List ℕ → Option (List ℕ → List ℕ) → Option (List ℕ → List ℕ) → End → Type 0
  SavesFrom c budget v from name files0 files1 end =
      Leaving (ResumesFile c budget v files0 from old new left0 left1) (LeavesAgain c budget v files0 from name files1) files0 files1 name end

  -- so it is with the program of a text
  abbrev pub SavesTextFrom : List ℕ → ℕ → Version → List ℕ → List ℕ → Option (List ℕ → List ℕ) → Option (List ℕ → List ℕ) → End → Type 0
  SavesTextFrom text budget v from name files0 files1 end =
      Leaving (ResumesText text budget v files0 from old new left0 left1)
      (λ e. (p : ProgramTree) (c : CoreProgram) → IsWritable text v p c → LeavesAgain c budget v files0 from name files1 e) files0 files1 name end
