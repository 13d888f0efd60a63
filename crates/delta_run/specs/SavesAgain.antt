-- What `save` owes where it goes on from a state.
use Rattle.std.specs.Prelude.{ℕ, List}
use Rattle.event_frame.specs.declared.version.Version.{Version}
use Rattle.delta_end.specs.declared.end.End.{End}
use Rattle.delta_end.specs.Status.{IsStill}
use Rattle.delta_loop.specs.History.{IsUntouched}
use Rattle.delta_loop.specs.Answer.{Adds, ReadsWell}
use Rattle.commands.specs.Running.{Takes}
use Rattle.commands.specs.Leaving.{ChangesState}
use Rattle.delta_run.specs.Outside.{Outside}
use Rattle.delta_run.specs.Text.{OfFile, IsRefusal}
use Rattle.delta_run.specs.Evaluated.{RefusesUnwritable}
use Rattle.delta_run.specs.Resumed.{ResumesPromptly, RefusesState, ResumesSettled}
use Rattle.delta_run.specs.SavedAgain.{SavesAgainMoves, LeavesStateAgain, SavesAgainWell}

pub record SavesAgain (file state old : List ℕ) (budget : ℕ) (v : Version) (before after : Outside) (end : End) (status : ℕ) : Type 0 where
  -- before each read, what was written are the frames of the successive increments of what the state in the third file
  -- gives, on the accepted events of the whole frames in what was read, without a header
  pub prompt : OfFile before.files file (λ text. OfFile before.files old (λ bytes. Adds before.log after.log (ResumesPromptly text bytes budget v)))
  -- nothing is read after the end of the input; at most 2^40 bytes are read, and one more only where there are too many
  pub reads : Adds before.log after.log (ReadsWell end)
  -- at every end, what was left to read are the bytes that were read, and then what is left now
  pub taken : Adds before.log after.log (Takes before.left after.left)
  -- where the text was refused nothing was read or written, whatever the shelf tells
  pub unrun : IsRefusal end → IsUntouched before.log after.log before.left after.left
  -- the end is shown by the bytes that were read and written: it is that of a run which goes on from the old state, or
  -- one that ended well stands behind it; where the text or the old state is refused for what is wrong first, there are none
  pub ends : OfFile before.files file (λ text. OfFile before.files old (λ bytes. Adds before.log after.log (SavesAgainMoves text bytes budget v end)))
  -- where it ended well, what the old state has become after all that was read is left; where it is told that it is too
  -- large, it is
  pub leaves : OfFile before.files file (λ text. OfFile before.files old (λ bytes. Adds before.log after.log (LeavesStateAgain text bytes v after.files state end)))
  -- no name changes but that of the new state, and that one only where it is to
  pub changes : ChangesState end before.files after.files state
  -- an accepted text, with no fault counted: the old state is refused, and then it is no typed one; or it is typed, and
  -- over an input that is good in whole, with no event that makes too many calls or one at too great a level, it is done or
  -- open, or the new state is too large, with all written; or memory is wanting
  pub complete : OfFile before.files file
      (λ text. OfFile before.files old
      (λ bytes. IsStill before.file_faults after.file_faults → IsStill before.read_faults after.read_faults → IsStill before.write_faults after.write_faults
      → IsStill before.note_faults after.note_faults → SavesAgainWell text bytes budget v before.left before.log after.log status))
  -- an accepted text and what is no typed state of its program, with no fault counted: status 10, or want of memory
  pub untyped : OfFile before.files file
      (λ text. OfFile before.files old
      (λ bytes. IsStill before.file_faults after.file_faults → IsStill before.note_faults after.note_faults → RefusesState text bytes v status))
  -- a text that is refused, whatever the third file is, with no fault counted: status 3, or want of memory
  pub refused : OfFile before.files file
      (λ text. IsStill before.file_faults after.file_faults → IsStill before.note_faults after.note_faults → RefusesUnwritable text v status)
  -- an accepted text whose run ended with 0, 4, 6 or 9: the end is that of the whole input, with the first fault where one is
  -- found, and what is due for its first 2^40 bytes was written, whatever the pieces that it came in and the budget
  pub settled : OfFile before.files file
      (λ text. OfFile before.files old (λ bytes. ResumesSettled text bytes v before.left before.log after.log end))
