-- What an evaluation of the file's text read, also where the shelf doesn't tell.
use Rattle.std.proofs.Common.{refl}
use Rattle.delta_end.specs.declared.end.End.TheVariants.{Memory, FileFailed}
use Rattle.delta_loop.specs.Answer.{ReadsWell}
use Rattle.delta_loop.proofs.Returning.{adds_none, unread}
use Rattle.delta_run.proofs.Evaluated.{evaluated_text, evals_reads, evals_takes, evals_unrun}
use Rattle.commands.proofs.Takings.{takes_none}
use Rattle.delta_run.proofs.command.eval_file.Goals as goal

pub returns-in-Ok-clause-reads : goal.returns-in-Ok-clause-reads
returns-in-Ok-clause-reads g c =
    evals_reads c.deref.result.now c.args.budget c.args.version _ _ _ _ c.eval_source.result
    (evaluated_text c.deref.result.now c.args.budget c.args.version _ _ _ _ c.eval_source.result c.eval_source.ensures.evaluated)

pub returns-in-Err-Memory-clause-reads : goal.returns-in-Err-Memory-clause-reads
returns-in-Err-Memory-clause-reads g c = adds_none _ _ (ReadsWell Memory) refl (unread Memory)

pub returns-in-Err-Failed-clause-reads : goal.returns-in-Err-Failed-clause-reads
returns-in-Err-Failed-clause-reads g c = adds_none _ _ (ReadsWell FileFailed) refl (unread FileFailed)

pub returns-in-Ok-clause-taken : goal.returns-in-Ok-clause-taken
returns-in-Ok-clause-taken g c =
    evals_takes c.deref.result.now c.args.budget c.args.version _ _ _ _ c.eval_source.result
    (evaluated_text c.deref.result.now c.args.budget c.args.version _ _ _ _ c.eval_source.result c.eval_source.ensures.evaluated)

pub returns-in-Ok-clause-unrun : goal.returns-in-Ok-clause-unrun
returns-in-Ok-clause-unrun g c =
    evals_unrun c.deref.result.now c.args.budget c.args.version _ _ _ _ c.eval_source.result
    (evaluated_text c.deref.result.now c.args.budget c.args.version _ _ _ _ c.eval_source.result c.eval_source.ensures.evaluated)

pub returns-in-Err-Memory-clause-taken : goal.returns-in-Err-Memory-clause-taken
returns-in-Err-Memory-clause-taken g c = takes_none _ _ _ _ (refl, refl)

pub returns-in-Err-Failed-clause-taken : goal.returns-in-Err-Failed-clause-taken
returns-in-Err-Failed-clause-taken g c = takes_none _ _ _ _ (refl, refl)
