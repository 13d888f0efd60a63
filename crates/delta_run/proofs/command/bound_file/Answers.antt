-- The telling of a bound reads nothing.
use Rattle.std.proofs.Common.{refl}
use Rattle.delta_end.specs.declared.end.End.TheVariants.{Memory, FileFailed}
use Rattle.delta_loop.specs.Answer.{ReadsWell}
use Rattle.delta_loop.proofs.Returning.{adds_none, unread}
use Rattle.delta_run.proofs.Printed.{written_reads}
use Rattle.delta_run.proofs.command.bound_file.Goals as goal

pub returns-in-Ok-clause-reads : goal.returns-in-Ok-clause-reads
returns-in-Ok-clause-reads g c = let told = c.bound_source.ensures.told in written_reads _ _ c.bound_source.result told.0 told.1

pub returns-in-Err-Memory-clause-reads : goal.returns-in-Err-Memory-clause-reads
returns-in-Err-Memory-clause-reads g c = adds_none _ _ (ReadsWell Memory) refl (unread Memory)

pub returns-in-Err-Failed-clause-reads : goal.returns-in-Err-Failed-clause-reads
returns-in-Err-Failed-clause-reads g c = adds_none _ _ (ReadsWell FileFailed) refl (unread FileFailed)
