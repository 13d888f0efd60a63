-- The tables are fed to the program of the text that the shelf told.
use Rattle.std.proofs.Common.{refl}
use Rattle.delta_end.specs.declared.end.End.TheVariants.{Memory, FileFailed}
use Rattle.delta_loop.specs.Answer.{ReadsWell}
use Rattle.delta_loop.proofs.Returning.{adds_none, unread}
use Rattle.delta_run.proofs.Printed.{written_reads}
use Rattle.delta_run.proofs.command.feed_file.Goals as goal

pub returns-in-Ok-clause-reads : goal.returns-in-Ok-clause-reads
returns-in-Ok-clause-reads g c = let fed = c.feed_source.ensures.fed in written_reads _ _ c.feed_source.result fed.0 fed.1

pub returns-in-Err-Memory-clause-reads : goal.returns-in-Err-Memory-clause-reads
returns-in-Err-Memory-clause-reads g c = adds_none _ _ (ReadsWell Memory) refl (unread Memory)

pub returns-in-Err-Failed-clause-reads : goal.returns-in-Err-Failed-clause-reads
returns-in-Err-Failed-clause-reads g c = adds_none _ _ (ReadsWell FileFailed) refl (unread FileFailed)
