-- What `check` owes.
use Rattle.std.specs.Prelude.{ℕ, List}
use Rattle.delta_end.specs.declared.end.End.{End}
use Rattle.delta_end.specs.Status.{IsStill}
use Rattle.delta_loop.specs.History.{IsUntouched}
use Rattle.delta_run.specs.Outside.{Outside}
use Rattle.delta_run.specs.Text.{OfFile}
use Rattle.delta_run.specs.Checked.{ChecksText, PassesAccepted, RefusesUnaccepted}

pub record Checks (file : List ℕ) (before after : Outside) (end : End) (status : ℕ) : Type 0 where
  -- nothing is read or written
  pub untouched : IsUntouched before.log after.log before.left after.left
  -- the end is done where the text is accepted, and else tells what is wrong first
  pub ends : OfFile before.files file (λ text. ChecksText text end)
  -- an accepted text, with no fault counted: status 0, or want of memory; any other: status 3, or want of memory
  pub complete : OfFile before.files file
      (λ text. IsStill before.file_faults after.file_faults → IsStill before.note_faults after.note_faults → PassesAccepted text status)
  pub refused : OfFile before.files file
      (λ text. IsStill before.file_faults after.file_faults → IsStill before.note_faults after.note_faults → RefusesUnaccepted text status)
