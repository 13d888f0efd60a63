-- The laws of runs that are saved, saved again and resumed: together they are one run.
--
-- Choices that are not obvious:
-- - Each input has a header of its own. So an input is two others joined where its events are those of the one and then
--   those of the other, in whatever pieces and version they come.
-- - The frames of both runs are of one version, and the first alone writes a header. The budgets may differ.
-- - That one run on both inputs stays within its budget isn't said. Where it ends well it wrote just this.
use Rattle.std.specs.Prelude.{◌≡◌, ℕ, List, ◌++◌, Option, Some}
use Rattle.port.specs.declared.link.Move.{Move}
use Rattle.port.specs.Moves.{bytes_read, bytes_written}
use Rattle.event_word.specs.StreamEvent.{StreamEvent}
use Rattle.event_frame.specs.declared.version.Version.{Version}
use Rattle.event_frame.specs.Frames.{header, frames, AllFit}
use Rattle.event_frame.specs.Reading.{whole}
use Rattle.delta_tree.specs.SyntaxTree.{ProgramTree}
use Rattle.core_term.specs.CoreTerm.{CoreProgram}
use Rattle.kept_state.specs.KeptTree.{KeptTree}
use Rattle.delta_end.specs.declared.end.End.{End}
use Rattle.checked_program.specs.Acceptance.{IsWritable}
use Rattle.delta_loop.specs.Meaning.{Meaning}
use Rattle.delta_loop.specs.Output.{accepted, due}
use Rattle.delta_loop.specs.Loop.{IsWellEnded}
use Rattle.commands.specs.Running.{IsMeant}
use Rattle.commands.specs.Resuming.{IsTypedAs}
use Rattle.delta_run.specs.Saved.{IsLeft}
use Rattle.delta_run.specs.SavedAgain.{IsLeftAgain}
use Rattle.delta_run.specs.Resumed.{IsMeantSince}
use Rattle.delta_run.specs.Outside.{Outside}
use Rattle.delta_run.specs.Runs.{Runs}
use Rattle.delta_run.specs.Saves.{Saves}
use Rattle.delta_run.specs.SavesAgain.{SavesAgain}
use Rattle.delta_run.specs.Resumes.{Resumes}

-- bytes are those of one typed state at most whose numbers have their sizes, be it of one program or of two
abbrev pub StateIsOne : Type 0
StateIsOne = (bytes : List ℕ) (c d : CoreProgram) (k l : KeptTree) → IsTypedAs c bytes k → IsTypedAs d bytes l → k ≡ l

-- what a run left is a typed state of its text's program, the one that was kept. So who goes on from it is never told
-- that it is none
abbrev pub LeftIsTyped : Type 0
LeftIsTyped =
    (text : List ℕ) (v : Version) (files : Option (List ℕ → List ℕ)) (name input bytes : List ℕ) (left : IsLeft text v files name input bytes)
    (p : ProgramTree) (c : CoreProgram) → IsWritable text v p c → IsTypedAs c bytes left.after.state

-- so it is with what a run left that went on from a state itself
abbrev pub LeftAgainIsTyped : Type 0
LeftAgainIsTyped =
    (text old : List ℕ) (v : Version) (files : Option (List ℕ → List ℕ)) (name input bytes : List ℕ) (left : IsLeftAgain text old v files name input bytes)
    (p : ProgramTree) (c : CoreProgram) → IsWritable text v p c → IsTypedAs c bytes left.after.state

-- the events of the third input are those of the first and then those of the second
abbrev pub IsJoined : List ℕ → List ℕ → List ℕ → Type 0
IsJoined first second both = whole both ≡ whole first ++ whole second

-- so it is where what stands behind the header of the second is put behind the first
abbrev pub FramesJoin : Type 0
FramesJoin =
    (v : Version) (first second : List StreamEvent) → AllFit v first → AllFit v second
    → IsJoined (header v ++ frames v first) (header v ++ frames v second) ((header v ++ frames v first) ++ frames v second)

-- let a state be left after an input of which each event was accepted, and let it be gone on from. Whatever comes since,
-- what was due before and what is due since are, joined, what is due of the program on both inputs
abbrev pub DueJoins : Type 0
DueJoins =
    (text : List ℕ) (budget later : ℕ) (v : Version) (files : Option (List ℕ → List ℕ)) (name first second both bytes : List ℕ) (P since : Meaning)
    → IsMeant text budget v P → accepted P (whole first) ≡ whole first → IsLeft text v files name first bytes → IsMeantSince text bytes later v since
    → IsJoined first second both → due P first ++ due since second ≡ due P both

-- let a state be left after an input of which each event was accepted, and be gone on from over a second one of which each
-- event was accepted too, and let the state be left again there. Then each event of both inputs, joined, is accepted, and
-- what is left is the state of the text after both. So what is said of a state that was left holds however many runs left it
abbrev pub KeptFurther : Type 0
KeptFurther =
    (text : List ℕ) (budget later : ℕ) (v : Version) (files next : Option (List ℕ → List ℕ)) (name other first second both bytes again : List ℕ) (P since : Meaning)
    → IsMeant text budget v P → accepted P (whole first) ≡ whole first → IsLeft text v files name first bytes
    → IsMeantSince text bytes later v since → accepted since (whole second) ≡ whole second → IsLeftAgain text bytes v next other second again
    → IsJoined first second both → (accepted P (whole both) ≡ whole both) × IsLeft text v next other both again

-- before a command the shelf held these files and the link told its log, and the command made these moves
pub record IsTold (before after : Outside) (files : List ℕ → List ℕ) (moves : List Move) : Type 0 where
  pub shelf : before.files ≡ Some files
  pub log : List Move
  pub log_before : before.log ≡ Some log
  pub log_after : after.log ≡ Some (log ++ moves)

-- `save FILE STATE` ended well, and left the shelf so
pub record HasSaved (file state : List ℕ) (v : Version) (files left : List ℕ → List ℕ) (moves : List Move) : Type 0 where
  pub budget : ℕ
  pub before : Outside
  pub after : Outside
  pub end : End
  pub status : ℕ
  pub saves : Saves file state budget v before after end status
  pub well : IsWellEnded end
  pub told : IsTold before after files moves
  pub shelf : after.files ≡ Some left

-- `save FILE STATE OLD` ended well, and left the shelf so
pub record HasSavedAgain (file state old : List ℕ) (v : Version) (files left : List ℕ → List ℕ) (moves : List Move) : Type 0 where
  pub budget : ℕ
  pub before : Outside
  pub after : Outside
  pub end : End
  pub status : ℕ
  pub saves : SavesAgain file state old budget v before after end status
  pub well : IsWellEnded end
  pub told : IsTold before after files moves
  pub shelf : after.files ≡ Some left

-- `resume FILE STATE` ended well
pub record HasResumed (file state : List ℕ) (v : Version) (files : List ℕ → List ℕ) (moves : List Move) : Type 0 where
  pub budget : ℕ
  pub before : Outside
  pub after : Outside
  pub end : End
  pub status : ℕ
  pub resumes : Resumes file state budget v before after end status
  pub well : IsWellEnded end
  pub told : IsTold before after files moves

-- `run FILE` ended well
pub record HasRun (file : List ℕ) (v : Version) (files : List ℕ → List ℕ) (moves : List Move) : Type 0 where
  pub budget : ℕ
  pub before : Outside
  pub after : Outside
  pub end : End
  pub status : ℕ
  pub runs : Runs file budget v before after end status
  pub well : IsWellEnded end
  pub told : IsTold before after files moves

-- let one text be saved, resumed and run, with the state as it was left, and the run on both inputs, joined. What the
-- first two wrote is, together, what the third wrote
abbrev pub RunsJoin : Type 0
RunsJoin =
    (v : Version) (file1 state1 file2 state2 file3 : List ℕ) (files1 left1 files2 files3 : List ℕ → List ℕ) (first second both : List Move)
    → HasSaved file1 state1 v files1 left1 first → HasResumed file2 state2 v files2 second → HasRun file3 v files3 both
    → files2 file2 ≡ files1 file1 → files3 file3 ≡ files1 file1 → files2 state2 ≡ left1 state1 → IsJoined (bytes_read first) (bytes_read second) (bytes_read both)
    → bytes_written first ++ bytes_written second ≡ bytes_written both

-- commands that save ended well, one after the other, with one text: the first from its start, each other from what the
-- one before left. The last left these bytes, and to all together these events came, and these bytes were written by them
pub data HaveSaved (text : List ℕ) (v : Version) : List ℕ → List StreamEvent → List ℕ → Type 0 where
  saved_first : (file state : List ℕ) (files left : List ℕ → List ℕ) (moves : List Move) → HasSaved file state v files left moves → files file ≡ text
      → HaveSaved text v (left state) (whole (bytes_read moves)) (bytes_written moves)
  saved_again : (bytes : List ℕ) (word : List StreamEvent) (written : List ℕ) (file state old : List ℕ) (files left : List ℕ → List ℕ) (moves : List Move)
      → HaveSaved text v bytes word written → HasSavedAgain file state old v files left moves → files file ≡ text → files old ≡ bytes
      → HaveSaved text v (left state) (word ++ whole (bytes_read moves)) (written ++ bytes_written moves)

-- let one text be saved so, however often, be resumed from what was left last, and be run, with the run on all inputs,
-- joined. What those wrote is, together, what the run wrote
abbrev pub AllRunsJoin : Type 0
AllRunsJoin =
    (text : List ℕ) (v : Version) (bytes : List ℕ) (word : List StreamEvent) (written file2 state2 file3 : List ℕ) (files2 files3 : List ℕ → List ℕ) (last all : List Move)
    → HaveSaved text v bytes word written → HasResumed file2 state2 v files2 last → HasRun file3 v files3 all
    → files2 file2 ≡ text → files3 file3 ≡ text → files2 state2 ≡ bytes → whole (bytes_read all) ≡ word ++ whole (bytes_read last)
    → written ++ bytes_written last ≡ bytes_written all
