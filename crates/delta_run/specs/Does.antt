-- What is done for a command line, by what it asks for.
use Rattle.std.specs.Prelude.{◌≡◌, ◌⊎◌, ℕ, List, Option}
use Rattle.port.specs.declared.link.Move.{Move}
use Rattle.delta_words.specs.CommandTask.{CommandTask, run, eval, check, print, text, frames, gen, bound, derive, feed, save, save_again, resume}
use Rattle.delta_end.specs.declared.end.End.{End}
use Rattle.delta_end.specs.declared.end.End.TheVariants.{Memory}
use Rattle.delta_loop.specs.History.{IsUntouched}
use Rattle.delta_loop.specs.Loop.{Ran as Lined}
use Rattle.delta_loop.specs.Answer.{Adds}
use Rattle.command_text.specs.Conversion.{frames_of_lines, Ran as Converted}
use Rattle.command_text.specs.Lines.{lines_of_frames}
use Rattle.commands.specs.Deriving.{DerivesText}
use Rattle.commands.specs.Running.{Takes, IsUnrun}
use Rattle.commands.specs.Leaving.{ChangesState}
use Rattle.delta_run.specs.CommandLine.{frames_of}
use Rattle.delta_run.specs.Text.{OfFile, IsRefusal, RanText}
use Rattle.delta_run.specs.Evaluated.{EvaluatedText}
use Rattle.delta_run.specs.Checked.{ChecksText}
use Rattle.delta_run.specs.Printed.{PrintedText}
use Rattle.delta_run.specs.Generated.{GeneratedLine}
use Rattle.delta_run.specs.Bounded.{BoundedText}
use Rattle.delta_run.specs.Fed.{FedText}
use Rattle.delta_run.specs.Saved.{SavedText}
use Rattle.delta_run.specs.SavedAgain.{SavedAgainText}
use Rattle.delta_run.specs.Resumed.{ResumedText}

-- what the shelf held, the link's log and what was left to read, before and after, and how it ended
module _ (files0 files1 : Option (List ℕ → List ℕ)) (log0 log1 : Option (List Move)) (left0 left1 : Option (List ℕ)) (end : End) where
  -- nothing was done, for want of memory
  abbrev pub DoesNothing : Type 0
  DoesNothing = (end ≡ Memory) × IsUntouched log0 log1 left0 left1

  -- what was left to read was taken as it was read, and where this holds of the end nothing was read or written
  abbrev pub TakesWell : (End → Type 0) → Type 0
  TakesWell unrun = Adds log0 log1 (Takes left0 left1) × (unrun end → IsUntouched log0 log1 left0 left1)

  abbrev pub Does : CommandTask → Type 0
  Does (run file budget v) = OfFile files0 file (λ source. RanText source budget (frames_of v) log0 log1 left0 left1 end) × TakesWell IsUnrun
  Does (eval file budget v) = OfFile files0 file (λ source. EvaluatedText source budget (frames_of v) log0 log1 left0 left1 end) × TakesWell IsUnrun
  Does (check file) = OfFile files0 file (λ source. ChecksText source end) × IsUntouched log0 log1 left0 left1
  Does (print file) = OfFile files0 file (λ source. PrintedText source log0 log1 end) × (left1 ≡ left0) × (IsUnrun end → log1 ≡ log0)
  Does text = DoesNothing ⊎ Lined lines_of_frames log0 log1 left0 left1 end
  Does (frames v) = DoesNothing ⊎ Converted (frames_of_lines (frames_of v)) log0 log1 left0 left1 end
  Does (gen start items) = GeneratedLine start items log0 log1 end × (left1 ≡ left0)
  Does (bound file) = OfFile files0 file (λ source. BoundedText source log0 log1 end) × (left1 ≡ left0) × (IsUnrun end → log1 ≡ log0)
  Does (derive file proof) = OfFile files0 file (λ source. OfFile files0 proof (λ steps. DerivesText source steps end)) × IsUntouched log0 log1 left0 left1
  Does (feed file schedule names budget) = OfFile files0 file (λ source. FedText files0 source schedule names budget log0 log1 end) × (left1 ≡ left0) × (IsUnrun end → log1 ≡ log0)
  Does (save file state budget v) =
      OfFile files0 file (λ source. SavedText source budget (frames_of v) state log0 log1 left0 left1 files0 files1 end) × ChangesState end files0 files1 state
      × TakesWell IsRefusal
  Does (save_again file state old budget v) =
      OfFile files0 file (λ source. SavedAgainText source budget (frames_of v) old state log0 log1 left0 left1 files0 files1 end) × ChangesState end files0 files1 state
      × TakesWell IsRefusal
  Does (resume file state budget v) =
      OfFile files0 file (λ source. ResumedText source budget (frames_of v) files0 state log0 log1 left0 left1 end) × TakesWell IsUnrun
