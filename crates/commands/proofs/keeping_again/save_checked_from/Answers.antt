-- The bytes are those of the file.
use Rattle.std.proofs.Common.{ℕ, List, Option, ◌∙◌, refl, sym, subst}
use Rattle.delta_end.specs.declared.end.End.TheVariants.{Memory, FileFailed}
use Rattle.core_term.specs.CoreTerm.{core_of}
use Rattle.delta_loop.specs.Answer.{ReadsWell}
use Rattle.delta_loop.proofs.Returning.{adds_none, unread}
use Rattle.commands.specs.Saving.{SavesFrom}
use Rattle.commands.proofs.SaveTexts.{saves_from_file, saves_unread, saves_short}
use Rattle.commands.proofs.Takings.{takes_none}
use Rattle.commands.proofs.keeping_again.save_checked_from.Goals as goal

pub returns-in-Ok-clause-saved : goal.returns-in-Ok-clause-saved
returns-in-Ok-clause-saved g c =
    let same = c.in-Ok.ensures.same in
    subst (λ (files : Option (List ℕ → List ℕ)). SavesFrom (g.L.Link.log c.args.link.now) (g.L.Link.log c.save_bytes.new.link) (g.L.Link.left c.args.link.now) (g.L.Link.left c.save_bytes.new.link) (core_of c.args.c.now) c.args.budget c.args.version c.args.from.now c.args.name.now files (g.S.Shelf.holds c.save_bytes.new.shelf) c.save_bytes.result) same
    (saves_from_file (core_of c.args.c.now) c.args.budget c.args.version c.args.from.now c.args.name.now (g.S.Shelf.holds c.read.new.self) (g.S.Shelf.holds c.save_bytes.new.shelf) c.deref.result.now
    (λ told there. c.deref.ensures.value ∙ c.in-Ok.ensures.bytes told (sym same ∙ there)) c.save_bytes.result c.save_bytes.ensures.saved)

pub returns-in-Err-Memory-clause-saved : goal.returns-in-Err-Memory-clause-saved
returns-in-Err-Memory-clause-saved g c =
    saves_short (core_of c.args.c.now) c.args.budget c.args.version c.args.from.now c.args.name.now (g.S.Shelf.holds c.args.shelf.now) (g.S.Shelf.holds c.read.new.self) c.in-Err-Memory.ensures.same (refl, refl)

pub returns-in-Err-Failed-clause-saved : goal.returns-in-Err-Failed-clause-saved
returns-in-Err-Failed-clause-saved g c =
    saves_unread (core_of c.args.c.now) c.args.budget c.args.version c.args.from.now c.args.name.now (g.S.Shelf.holds c.args.shelf.now) (g.S.Shelf.holds c.read.new.self) c.in-Err-Failed.ensures.same (refl, refl)

pub returns-in-Err-Memory-clause-reads : goal.returns-in-Err-Memory-clause-reads
returns-in-Err-Memory-clause-reads g c = adds_none _ _ (ReadsWell Memory) refl (unread Memory)

pub returns-in-Err-Failed-clause-reads : goal.returns-in-Err-Failed-clause-reads
returns-in-Err-Failed-clause-reads g c = adds_none _ _ (ReadsWell FileFailed) refl (unread FileFailed)

pub returns-in-Err-Memory-clause-taken : goal.returns-in-Err-Memory-clause-taken
returns-in-Err-Memory-clause-taken g c = takes_none _ _ _ _ (refl, refl)

pub returns-in-Err-Failed-clause-taken : goal.returns-in-Err-Failed-clause-taken
returns-in-Err-Failed-clause-taken g c = takes_none _ _ _ _ (refl, refl)
