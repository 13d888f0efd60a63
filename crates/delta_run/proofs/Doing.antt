-- What is done where memory ran out before anything was.
use Rattle.std.proofs.Common.{ℕ, List, Option, [], inl, refl}
use Rattle.port.specs.declared.link.Move.{Move}
use Rattle.delta_words.specs.CommandTask.{CommandTask, run, eval, check, print, text, frames, gen, bound, derive, feed, save, save_again, resume}
use Rattle.delta_end.specs.declared.end.End.TheVariants.{Memory}
use Rattle.delta_loop.proofs.Logs.{writes_nothing}
use Rattle.commands.specs.Generating.{load_line}
use Rattle.delta_run.specs.CommandLine.{frames_of}
use Rattle.delta_run.specs.Does.{Does}
use Rattle.commands.proofs.Takings.{takes_none}
use Rattle.delta_run.proofs.RunsBehind.{same_files}
use Rattle.delta_run.proofs.SavedTexts.{saved_nothing}
use Rattle.delta_run.proofs.SavedAgainTexts.{saved_again_nothing}

-- it is what each task may do then
pub does_nothing : (files : Option (List ℕ → List ℕ)) (log : Option (List Move)) (left : Option (List ℕ)) (task : CommandTask) → Does files files log log left left Memory task
does_nothing files log left (run file budget v) = ((λ held is. inl (refl, refl)), (takes_none log log left left (refl, refl), λ never. absurd never))
does_nothing files log left (eval file budget v) = ((λ held is. inl (refl, refl)), (takes_none log log left left (refl, refl), λ never. absurd never))
does_nothing files log left (check file) = (λ held is. tt, (refl, refl))
does_nothing files log left (print file) = (λ held is. ([], writes_nothing log, inl refl), refl, λ never. absurd never)
does_nothing files log left text = inl (refl, (refl, refl))
does_nothing files log left (frames v) = inl (refl, (refl, refl))
does_nothing files log left (gen start items) = (([], writes_nothing log, (load_line start items, refl)), refl)
does_nothing files log left (bound file) = (λ held is. ([], writes_nothing log, inl refl), refl, λ never. absurd never)
does_nothing files log left (derive file proof) = (λ held is more again. tt, (refl, refl))
does_nothing files log left (feed file schedule names budget) = (λ held is. ([], writes_nothing log, λ more again. inl refl), refl, λ never. absurd never)
does_nothing files log left (save file state budget v) =
    (λ held is. saved_nothing _ budget (frames_of v) state log log left left files files (refl, refl) refl, same_files files files state refl, (takes_none log log left left (refl, refl), λ never. absurd never))
does_nothing files log left (save_again file state old budget v) =
    (λ held is. saved_again_nothing _ budget (frames_of v) old state log log left left files files (refl, refl) refl, same_files files files state refl, (takes_none log log left left (refl, refl), λ never. absurd never))
does_nothing files log left (resume file state budget v) = ((λ held is. inl (refl, refl)), (takes_none log log left left (refl, refl), λ never. absurd never))
