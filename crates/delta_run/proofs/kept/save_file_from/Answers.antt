-- A run that goes on with the file's text and leaves its state is one of the text that the shelf told, and of the files as
-- they were.
use Rattle.std.proofs.Common.{List, ℕ, Option, ◌∙◌, refl, subst, take}
use Rattle.delta_end.specs.declared.end.End.TheVariants.{Memory, FileFailed}
use Rattle.delta_loop.specs.Answer.{ReadsWell}
use Rattle.delta_loop.proofs.Returning.{adds_none, unread}
use Rattle.commands.specs.Leaving.{ChangesState}
use Rattle.delta_run.specs.SavedAgain.{SavedAgainText}
use Rattle.delta_run.proofs.RunsBehind.{same_files}
use Rattle.delta_run.proofs.SavedAgainTexts.{saved_again_text, saved_again_nothing, saved_again_unread, saved_again_unrun}
use Rattle.commands.proofs.Takings.{takes_none}
use Rattle.delta_run.proofs.kept.save_file_from.Goals as goal

pub returns-in-Ok-clause-saved : goal.returns-in-Ok-clause-saved
returns-in-Ok-clause-saved g c files tells =
    let of_file = saved_again_text c.deref.result.now c.args.budget c.args.version c.args.from.now c.args.state.now _ _ _ _ _ _ c.save_source_from.result c.save_source_from.ensures.saved in
    let of_text = subst (λ (text : List ℕ). SavedAgainText text c.args.budget c.args.version c.args.from.now c.args.state.now (g.L.Link.log c.args.link.now) (g.L.Link.log c.save_source_from.new.link)
    (g.L.Link.left c.args.link.now) (g.L.Link.left c.save_source_from.new.link) (g.S.Shelf.holds c.read.new.self) (g.S.Shelf.holds c.save_source_from.new.shelf) c.save_source_from.result)
    (c.deref.ensures.value ∙ c.in-Ok.ensures.bytes files tells) of_file in
    subst (λ (before : Option (List ℕ → List ℕ)). SavedAgainText (take 1048577 (files c.args.file.now)) c.args.budget c.args.version c.args.from.now c.args.state.now (g.L.Link.log c.args.link.now)
    (g.L.Link.log c.save_source_from.new.link) (g.L.Link.left c.args.link.now) (g.L.Link.left c.save_source_from.new.link) before (g.S.Shelf.holds c.save_source_from.new.shelf) c.save_source_from.result)
    c.in-Ok.ensures.same of_text

pub returns-in-Ok-clause-changes : goal.returns-in-Ok-clause-changes
returns-in-Ok-clause-changes g c =
    subst (λ (before : Option (List ℕ → List ℕ)). ChangesState c.save_source_from.result before (g.S.Shelf.holds c.save_source_from.new.shelf) c.args.state.now) c.in-Ok.ensures.same
    c.save_source_from.ensures.saved.changes

pub returns-in-Err-Memory-clause-reads : goal.returns-in-Err-Memory-clause-reads
returns-in-Err-Memory-clause-reads g c = adds_none _ _ (ReadsWell Memory) refl (unread Memory)

pub returns-in-Err-Failed-clause-reads : goal.returns-in-Err-Failed-clause-reads
returns-in-Err-Failed-clause-reads g c = adds_none _ _ (ReadsWell FileFailed) refl (unread FileFailed)

pub returns-in-Err-Memory-clause-changes : goal.returns-in-Err-Memory-clause-changes
returns-in-Err-Memory-clause-changes g c = same_files _ _ c.args.state.now c.read.ensures.same

pub returns-in-Err-Failed-clause-changes : goal.returns-in-Err-Failed-clause-changes
returns-in-Err-Failed-clause-changes g c = same_files _ _ c.args.state.now c.read.ensures.same

pub returns-in-Err-Memory-clause-saved : goal.returns-in-Err-Memory-clause-saved
returns-in-Err-Memory-clause-saved g c files tells = saved_again_nothing (take 1048577 (files c.args.file.now)) c.args.budget c.args.version c.args.from.now c.args.state.now _ _ _ _ _ _ (refl, refl) c.read.ensures.same

pub returns-in-Err-Failed-clause-saved : goal.returns-in-Err-Failed-clause-saved
returns-in-Err-Failed-clause-saved g c files tells = saved_again_unread (take 1048577 (files c.args.file.now)) c.args.budget c.args.version c.args.from.now c.args.state.now _ _ _ _ _ _ (refl, refl) c.read.ensures.same

pub returns-in-Ok-clause-unrun : goal.returns-in-Ok-clause-unrun
returns-in-Ok-clause-unrun g c =
    saved_again_unrun c.deref.result.now c.args.budget c.args.version c.args.from.now c.args.state.now _ _ _ _ _ _ c.save_source_from.result
    (saved_again_text c.deref.result.now c.args.budget c.args.version c.args.from.now c.args.state.now _ _ _ _ _ _ c.save_source_from.result c.save_source_from.ensures.saved)

pub returns-in-Err-Memory-clause-taken : goal.returns-in-Err-Memory-clause-taken
returns-in-Err-Memory-clause-taken g c = takes_none _ _ _ _ (refl, refl)

pub returns-in-Err-Failed-clause-taken : goal.returns-in-Err-Failed-clause-taken
returns-in-Err-Failed-clause-taken g c = takes_none _ _ _ _ (refl, refl)
