-- A run of the file's text is one of the text that the shelf told.
use Rattle.std.proofs.Common.{List, ℕ, ◌∙◌, refl, subst}
use Rattle.delta_end.specs.declared.end.End.TheVariants.{Memory, FileFailed}
use Rattle.delta_loop.specs.Answer.{ReadsWell}
use Rattle.delta_loop.proofs.Returning.{adds_none, unread}
use Rattle.delta_run.specs.Text.{RanText}
use Rattle.delta_run.proofs.TextRuns.{ran_text, text_reads, text_takes, text_unrun}
use Rattle.commands.proofs.Takings.{takes_none}
use Rattle.delta_run.proofs.command.run_file.Goals as goal

pub returns-in-Ok-clause-ran : goal.returns-in-Ok-clause-ran
returns-in-Ok-clause-ran g c files tells =
    subst (λ (text : List ℕ). RanText text c.args.budget c.args.version (g.L.Link.log c.args.link.now) (g.L.Link.log c.run_source.new.link)
    (g.L.Link.left c.args.link.now) (g.L.Link.left c.run_source.new.link) c.run_source.result)
    (c.deref.ensures.value ∙ c.in-Ok.ensures.bytes files tells)
    (ran_text c.deref.result.now c.args.budget c.args.version _ _ _ _ c.run_source.result c.run_source.ensures.ran)

pub returns-in-Ok-clause-reads : goal.returns-in-Ok-clause-reads
returns-in-Ok-clause-reads g c =
    text_reads c.deref.result.now c.args.budget c.args.version _ _ _ _ c.run_source.result (ran_text c.deref.result.now c.args.budget c.args.version _ _ _ _ c.run_source.result c.run_source.ensures.ran)

pub returns-in-Err-Memory-clause-reads : goal.returns-in-Err-Memory-clause-reads
returns-in-Err-Memory-clause-reads g c = adds_none _ _ (ReadsWell Memory) refl (unread Memory)

pub returns-in-Err-Failed-clause-reads : goal.returns-in-Err-Failed-clause-reads
returns-in-Err-Failed-clause-reads g c = adds_none _ _ (ReadsWell FileFailed) refl (unread FileFailed)

pub returns-in-Ok-clause-taken : goal.returns-in-Ok-clause-taken
returns-in-Ok-clause-taken g c =
    text_takes c.deref.result.now c.args.budget c.args.version _ _ _ _ c.run_source.result (ran_text c.deref.result.now c.args.budget c.args.version _ _ _ _ c.run_source.result c.run_source.ensures.ran)

pub returns-in-Ok-clause-unrun : goal.returns-in-Ok-clause-unrun
returns-in-Ok-clause-unrun g c =
    text_unrun c.deref.result.now c.args.budget c.args.version _ _ _ _ c.run_source.result (ran_text c.deref.result.now c.args.budget c.args.version _ _ _ _ c.run_source.result c.run_source.ensures.ran)

pub returns-in-Err-Memory-clause-taken : goal.returns-in-Err-Memory-clause-taken
returns-in-Err-Memory-clause-taken g c = takes_none _ _ _ _ (refl, refl)

pub returns-in-Err-Failed-clause-taken : goal.returns-in-Err-Failed-clause-taken
returns-in-Err-Failed-clause-taken g c = takes_none _ _ _ _ (refl, refl)
