-- A run that goes on with the file's text is one of the text that the shelf told, and of the files as they are.
use Rattle.std.proofs.Common.{List, ℕ, Option, ◌∙◌, refl, subst, take}
use Rattle.delta_end.specs.declared.end.End.TheVariants.{Memory, FileFailed}
use Rattle.delta_loop.specs.Answer.{ReadsWell}
use Rattle.delta_loop.proofs.Returning.{adds_none, unread}
use Rattle.delta_run.specs.Resumed.{ResumedText}
use Rattle.delta_run.proofs.ResumedTexts.{resumed_text, resumed_unrun}
use Rattle.commands.proofs.Takings.{takes_none}
use Rattle.delta_run.proofs.kept.resume_file.Goals as goal

pub returns-in-Ok-clause-resumed : goal.returns-in-Ok-clause-resumed
returns-in-Ok-clause-resumed g c files tells =
    let of_file = resumed_text c.deref.result.now c.args.budget c.args.version _ c.args.state.now _ _ _ _ c.resume_source.result c.resume_source.ensures.resumed in
    let of_text = subst (λ (text : List ℕ). ResumedText text c.args.budget c.args.version (g.S.Shelf.holds c.read.new.self) c.args.state.now (g.L.Link.log c.args.link.now) (g.L.Link.log c.resume_source.new.link)
    (g.L.Link.left c.args.link.now) (g.L.Link.left c.resume_source.new.link) c.resume_source.result)
    (c.deref.ensures.value ∙ c.in-Ok.ensures.bytes files tells) of_file in
    subst (λ (held : Option (List ℕ → List ℕ)). ResumedText (take 1048577 (files c.args.file.now)) c.args.budget c.args.version held c.args.state.now (g.L.Link.log c.args.link.now) (g.L.Link.log c.resume_source.new.link)
    (g.L.Link.left c.args.link.now) (g.L.Link.left c.resume_source.new.link) c.resume_source.result)
    c.in-Ok.ensures.same of_text

pub returns-in-Err-Memory-clause-reads : goal.returns-in-Err-Memory-clause-reads
returns-in-Err-Memory-clause-reads g c = adds_none _ _ (ReadsWell Memory) refl (unread Memory)

pub returns-in-Err-Failed-clause-reads : goal.returns-in-Err-Failed-clause-reads
returns-in-Err-Failed-clause-reads g c = adds_none _ _ (ReadsWell FileFailed) refl (unread FileFailed)

pub returns-in-Ok-clause-unrun : goal.returns-in-Ok-clause-unrun
returns-in-Ok-clause-unrun g c =
    resumed_unrun c.deref.result.now c.args.budget c.args.version _ c.args.state.now _ _ _ _ c.resume_source.result
    (resumed_text c.deref.result.now c.args.budget c.args.version _ c.args.state.now _ _ _ _ c.resume_source.result c.resume_source.ensures.resumed)

pub returns-in-Err-Memory-clause-taken : goal.returns-in-Err-Memory-clause-taken
returns-in-Err-Memory-clause-taken g c = takes_none _ _ _ _ (refl, refl)

pub returns-in-Err-Failed-clause-taken : goal.returns-in-Err-Failed-clause-taken
returns-in-Err-Failed-clause-taken g c = takes_none _ _ _ _ (refl, refl)
