-- What `print` owes.
use Rattle.std.specs.Prelude.{◌≡◌, ℕ, List}
use Rattle.delta_end.specs.declared.end.End.{End}
use Rattle.delta_end.specs.Status.{IsStill}
use Rattle.delta_loop.specs.History.{IsUntouched}
use Rattle.delta_loop.specs.Answer.{Adds}
use Rattle.commands.specs.Running.{IsUnrun}
use Rattle.delta_run.specs.Outside.{Outside}
use Rattle.delta_run.specs.Text.{OfFile}
use Rattle.delta_run.specs.Printed.{PrintsText, PrintsWell, RefusesWell}

pub record Prints (file : List ℕ) (before after : Outside) (end : End) (status : ℕ) : Type 0 where
  -- the link's input stays as it is
  pub unread : after.left ≡ before.left
  -- where the text was refused, or a file couldn't be read, nothing was read or written, whatever the shelf tells
  pub unrun : IsUnrun end → IsUntouched before.log after.log before.left after.left
  -- the end is shown by the bytes that were written
  pub ends : OfFile before.files file (λ text. Adds before.log after.log (PrintsText text end))
  -- the text of a program, with no fault counted: done with its canonical text written, or want of memory
  pub complete : OfFile before.files file
      (λ text. IsStill before.file_faults after.file_faults → IsStill before.write_faults after.write_faults → IsStill before.note_faults after.note_faults
      → PrintsWell text before.log after.log status)
  -- a text that is refused for something, with no fault counted: status 3, or want of memory
  pub refused : OfFile before.files file
      (λ text. IsStill before.file_faults after.file_faults → IsStill before.write_faults after.write_faults → IsStill before.note_faults after.note_faults
      → RefusesWell text status)
