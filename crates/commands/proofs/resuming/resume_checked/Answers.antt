-- The bytes are those of the file.
use Rattle.std.proofs.Common.{◌∙◌, refl}
use Rattle.delta_end.specs.declared.end.End.TheVariants.{Memory, FileFailed}
use Rattle.delta_loop.specs.Answer.{ReadsWell}
use Rattle.delta_loop.proofs.Returning.{adds_none, unread}
use Rattle.core_term.specs.CoreTerm.{core_of}
use Rattle.commands.proofs.Ends.{of_file}
use Rattle.commands.proofs.Takings.{takes_none}
use Rattle.commands.proofs.resuming.resume_checked.Goals as goal

pub returns-in-Ok-clause-resumed : goal.returns-in-Ok-clause-resumed
returns-in-Ok-clause-resumed g c =
    of_file (core_of c.args.c.now) c.args.budget c.args.version (g.S.Shelf.holds c.args.shelf.now) c.args.name.now (g.L.Link.log c.args.link.now)
    (g.L.Link.log c.resume_bytes.new.link) (g.L.Link.left c.args.link.now) (g.L.Link.left c.resume_bytes.new.link) c.deref.result.now
    (λ told there. c.deref.ensures.value ∙ c.in-Ok.ensures.bytes told there) c.resume_bytes.result c.resume_bytes.ensures.resumed

pub returns-in-Err-Memory-clause-reads : goal.returns-in-Err-Memory-clause-reads
returns-in-Err-Memory-clause-reads g c = adds_none _ _ (ReadsWell Memory) refl (unread Memory)

pub returns-in-Err-Failed-clause-reads : goal.returns-in-Err-Failed-clause-reads
returns-in-Err-Failed-clause-reads g c = adds_none _ _ (ReadsWell FileFailed) refl (unread FileFailed)

pub returns-in-Err-Memory-clause-taken : goal.returns-in-Err-Memory-clause-taken
returns-in-Err-Memory-clause-taken g c = takes_none _ _ _ _ (refl, refl)

pub returns-in-Err-Failed-clause-taken : goal.returns-in-Err-Failed-clause-taken
returns-in-Err-Failed-clause-taken g c = takes_none _ _ _ _ (refl, refl)
