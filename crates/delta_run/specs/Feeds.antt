-- What `feed` owes.
use Rattle.std.specs.Prelude.{◌≡◌, ℕ, List}
use Rattle.delta_end.specs.declared.end.End.{End}
use Rattle.delta_end.specs.Status.{IsStill}
use Rattle.delta_loop.specs.History.{IsUntouched}
use Rattle.delta_loop.specs.Answer.{Adds}
use Rattle.commands.specs.Tables.{OfTables}
use Rattle.commands.specs.Feeding.{Tells}
use Rattle.commands.specs.Running.{IsUnrun}
use Rattle.delta_run.specs.Outside.{Outside}
use Rattle.delta_run.specs.Text.{OfFile}
use Rattle.delta_run.specs.Checked.{RefusesUnaccepted}
use Rattle.delta_run.specs.Told.{Told}
use Rattle.delta_run.specs.Fed.{FeedsWell, RefusesTables}

pub record Feeds (file schedule : List ℕ) (names : List (List ℕ)) (budget : ℕ) (before after : Outside) (end : End) (status : ℕ) : Type 0 where
  -- the link's input stays as it is
  pub unread : after.left ≡ before.left
  -- where the text was refused, or a file couldn't be read, nothing was read or written, whatever the shelf tells
  pub unrun : IsUnrun end → IsUntouched before.log after.log before.left after.left
  -- the end is shown by the bytes that were written, by writes of one text alone: where it is done that of what the program
  -- gives on the whole of the tables, in which the schedule doesn't occur, a front of it where memory ran out or a write
  -- failed, and else nothing
  pub ends : OfFile before.files file (λ text. OfTables before.files names (λ tables. Adds before.log after.log (Told (Tells text schedule tables budget) end)))
  -- tables that the program takes, at none of whose events it is stopped, with no fault counted: done with that text
  -- written, or want of memory
  pub complete : OfFile before.files file (λ text. OfTables before.files names (λ tables.
      IsStill before.file_faults after.file_faults → IsStill before.write_faults after.write_faults
      → IsStill before.note_faults after.note_faults → FeedsWell text schedule tables budget before.log after.log status))
  -- tables that it doesn't take, with no fault counted: status 13, or want of memory
  pub untaken : OfFile before.files file (λ text. OfTables before.files names (λ tables.
      IsStill before.file_faults after.file_faults → IsStill before.write_faults after.write_faults
      → IsStill before.note_faults after.note_faults → RefusesTables text tables status))
  -- a text that is refused for something, whatever the tables are, with no fault counted: status 3, or want of memory
  pub refused : OfFile before.files file (λ text. OfTables before.files names (λ tables.
      IsStill before.file_faults after.file_faults → IsStill before.write_faults after.write_faults
      → IsStill before.note_faults after.note_faults → RefusesUnaccepted text status))
