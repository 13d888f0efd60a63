-- What `save` owes.
use Rattle.std.specs.Prelude.{ℕ, List}
use Rattle.event_frame.specs.declared.version.Version.{Version}
use Rattle.delta_end.specs.declared.end.End.{End}
use Rattle.delta_end.specs.Status.{IsStill}
use Rattle.delta_loop.specs.History.{IsUntouched}
use Rattle.delta_loop.specs.Answer.{Adds, ReadsWell}
use Rattle.commands.specs.Running.{Takes}
use Rattle.commands.specs.Leaving.{ChangesState}
use Rattle.delta_run.specs.Outside.{Outside}
use Rattle.delta_run.specs.Text.{OfFile, IsRefusal, RunsPromptly}
use Rattle.delta_run.specs.Settled.{SettlesWell}
use Rattle.delta_run.specs.Evaluated.{RefusesUnwritable}
use Rattle.delta_run.specs.Saved.{SavesMoves, LeavesState, SavesWell}

pub record Saves (file state : List ℕ) (budget : ℕ) (v : Version) (before after : Outside) (end : End) (status : ℕ) : Type 0 where
  -- before each read, what was written are the header and the frames of the successive increments of the one-shot
  -- meaning of the text's program on the accepted events of the whole frames in what was read
  pub prompt : OfFile before.files file (λ text. Adds before.log after.log (RunsPromptly text budget v))
  -- nothing is read after the end of the input; at most 2^40 bytes are read, and one more only where there are too many
  pub reads : Adds before.log after.log (ReadsWell end)
  -- at every end, what was left to read are the bytes that were read, and then what is left now
  pub taken : Adds before.log after.log (Takes before.left after.left)
  -- where the text was refused nothing was read or written, whatever the shelf tells
  pub unrun : IsRefusal end → IsUntouched before.log after.log before.left after.left
  -- the end is shown by the bytes that were read and written: it is that of a run, or one that ended well stands behind it
  pub ends : OfFile before.files file (λ text. Adds before.log after.log (SavesMoves text budget v end))
  -- where it ended well, the state after all that was read is left; where it is told that it is too large, it is
  pub leaves : OfFile before.files file (λ text. Adds before.log after.log (LeavesState text v after.files state end))
  -- no name changes but that of the state, and that one only where it is to
  pub changes : ChangesState end before.files after.files state
  -- an accepted text over an input that is good in whole, with no event that makes too many calls or one at too great
  -- a level, and no fault counted: done or open, or the state is too large, with all written, or want of memory
  pub complete : OfFile before.files file
      (λ text. IsStill before.file_faults after.file_faults → IsStill before.read_faults after.read_faults → IsStill before.write_faults after.write_faults
      → IsStill before.note_faults after.note_faults → SavesWell text budget v before.left before.log after.log status)
  -- a text that is refused, with no fault counted: status 3, or want of memory
  pub refused : OfFile before.files file
      (λ text. IsStill before.file_faults after.file_faults → IsStill before.note_faults after.note_faults → RefusesUnwritable text v status)
  -- an accepted text whose run ended with 0, 4, 6 or 9: the end is that of the whole input, with the first fault where one is
  -- found, and what is due for its first 2^40 bytes was written, whatever the pieces that it came in and the budget
  pub settled : OfFile before.files file (λ text. SettlesWell text v before.left before.log after.log end)
