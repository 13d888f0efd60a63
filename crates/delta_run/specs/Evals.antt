-- What `eval` owes.
use Rattle.std.specs.Prelude.{ℕ, List}
use Rattle.event_frame.specs.declared.version.Version.{Version}
use Rattle.delta_end.specs.declared.end.End.{End}
use Rattle.delta_end.specs.Status.{IsStill}
use Rattle.delta_loop.specs.History.{IsUntouched}
use Rattle.delta_loop.specs.Answer.{Adds, ReadsWell}
use Rattle.commands.specs.Running.{Takes, IsUnrun}
use Rattle.delta_run.specs.Outside.{Outside}
use Rattle.delta_run.specs.Text.{OfFile}
use Rattle.delta_run.specs.Evaluated.{EvalsText, EvalsWell, StopsWell, RefusesUnwritable}

pub record Evals (file : List ℕ) (budget : ℕ) (v : Version) (before after : Outside) (end : End) (status : ℕ) : Type 0 where
  -- nothing is read after the end of the input; at most 2^40 bytes are read, and one more only where there are too many
  pub reads : Adds before.log after.log (ReadsWell end)
  -- at every end, what was left to read are the bytes that were read, and then what is left now
  pub taken : Adds before.log after.log (Takes before.left after.left)
  -- where the text was refused, or a file couldn't be read, nothing was read or written, whatever the shelf tells
  pub unrun : IsUnrun end → IsUntouched before.log after.log before.left after.left
  -- nothing was written before the input's end, and the end is shown by the bytes that were read and written
  pub ends : OfFile before.files file (λ text. Adds before.log after.log (EvalsText text budget v end))
  -- an accepted text over an input that is good in whole, with no fault counted: within the budget done or open with
  -- all written, past it status 5 with nothing written, or want of memory
  pub complete : OfFile before.files file
      (λ text. IsStill before.file_faults after.file_faults → IsStill before.read_faults after.read_faults → IsStill before.write_faults after.write_faults
      → IsStill before.note_faults after.note_faults → EvalsWell text budget v before.left before.log after.log status)
  pub stopped : OfFile before.files file
      (λ text. IsStill before.file_faults after.file_faults → IsStill before.read_faults after.read_faults → IsStill before.write_faults after.write_faults
      → IsStill before.note_faults after.note_faults → StopsWell text budget v before.left before.log after.log status)
  -- a text that is refused, with no fault counted: status 3, or want of memory
  pub refused : OfFile before.files file
      (λ text. IsStill before.file_faults after.file_faults → IsStill before.note_faults after.note_faults → RefusesUnwritable text v status)
