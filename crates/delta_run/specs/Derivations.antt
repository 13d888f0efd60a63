-- What `derive` owes.
use Rattle.std.specs.Prelude.{ℕ, List}
use Rattle.delta_end.specs.declared.end.End.{End}
use Rattle.delta_end.specs.Status.{IsStill}
use Rattle.delta_loop.specs.History.{IsUntouched}
use Rattle.delta_run.specs.Outside.{Outside}
use Rattle.delta_run.specs.Text.{OfFile}
use Rattle.commands.specs.Deriving.{DerivesText}
use Rattle.delta_run.specs.Derived.{PassesDerived, RefusesUnderived, RefusesUnelaborated}

pub record Derivations (file proof : List ℕ) (before after : Outside) (end : End) (status : ℕ) : Type 0 where
  -- the link isn't touched
  pub untouched : IsUntouched before.log after.log before.left after.left
  -- the end is done where the second file is a derivation of the first one's program, and else tells what is wrong first
  pub ends : OfFile before.files file (λ text. OfFile before.files proof (λ steps. DerivesText text steps end))
  -- a derivation of the program, with no fault counted: status 0, or want of memory; what is none: status 11, or want of
  -- memory; and a text without a core, whatever the second file is: status 3, or want of memory
  pub complete : OfFile before.files file
      (λ text. OfFile before.files proof
      (λ steps. IsStill before.file_faults after.file_faults → IsStill before.note_faults after.note_faults → PassesDerived text steps status))
  pub underived : OfFile before.files file
      (λ text. OfFile before.files proof
      (λ steps. IsStill before.file_faults after.file_faults → IsStill before.note_faults after.note_faults → RefusesUnderived text steps status))
  pub refused : OfFile before.files file
      (λ text. OfFile before.files proof
      (λ steps. IsStill before.file_faults after.file_faults → IsStill before.note_faults after.note_faults → RefusesUnelaborated text status))
