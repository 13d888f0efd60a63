-- What is owed to a command line, by what it asks for.
use Rattle.std.specs.Prelude.{ℕ}
use Rattle.delta_words.specs.CommandTask.{CommandTask, run, eval, check, print, text, frames, gen, bound, derive, feed, save, save_again, resume}
use Rattle.delta_end.specs.declared.end.End.{End}
use Rattle.delta_run.specs.CommandLine.{frames_of}
use Rattle.delta_run.specs.Outside.{Outside}
use Rattle.delta_run.specs.Runs.{Runs}
use Rattle.delta_run.specs.Evals.{Evals}
use Rattle.delta_run.specs.Checks.{Checks}
use Rattle.delta_run.specs.Prints.{Prints}
use Rattle.delta_run.specs.Gens.{Gens}
use Rattle.delta_run.specs.Bounds.{Bounds}
use Rattle.delta_run.specs.Derivations.{Derivations}
use Rattle.delta_run.specs.Feeds.{Feeds}
use Rattle.delta_run.specs.Saves.{Saves}
use Rattle.delta_run.specs.SavesAgain.{SavesAgain}
use Rattle.delta_run.specs.Resumes.{Resumes}
use Rattle.delta_run.specs.Lines.{WritesFrames, WritesLines}

abbrev pub Owes : CommandTask → Outside → Outside → End → ℕ → Type 0
Owes (run file budget v) before after end status = Runs file budget (frames_of v) before after end status
Owes (eval file budget v) before after end status = Evals file budget (frames_of v) before after end status
Owes (check file) before after end status = Checks file before after end status
Owes (print file) before after end status = Prints file before after end status
Owes text before after end status = WritesLines before after end status
Owes (frames v) before after end status = WritesFrames (frames_of v) before after end status
Owes (gen start items) before after end status = Gens start items before after end status
Owes (bound file) before after end status = Bounds file before after end status
Owes (derive file proof) before after end status = Derivations file proof before after end status
Owes (feed file schedule names budget) before after end status = Feeds file schedule names budget before after end status
Owes (save file state budget v) before after end status = Saves file state budget (frames_of v) before after end status
Owes (save_again file state old budget v) before after end status = SavesAgain file state old budget (frames_of v) before after end status
Owes (resume file state budget v) before after end status = Resumes file state budget (frames_of v) before after end status
