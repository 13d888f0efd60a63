-- The run ended well, and its state was written, or was too large, or couldn't be written, or memory ran out.
use Rattle.commands.proofs.Leaving.{saved_state, saves_well}
use Rattle.commands.proofs.keeping.leave.Goals as goal

pub returns-in-Ok-write-clause-left : goal.returns-in-Ok-write-clause-left
returns-in-Ok-write-clause-left g c w tells =
    let keeps = rw c.deref.ensures.value at c.in-Ok-write.ensures.kept in
    saves_well w c.args.name.now (g.S.Shelf.holds c.args.shelf.now) (g.S.Shelf.holds c.write.new.self) c.args.end c.requires.well tells.ended
    (saved_state w c.args.end (g.S.Shelf.holds c.write.new.self) c.args.name.now c.in-Ok.bytes.items (rw c.in-Ok.is at tells.its) keeps) c.write.ensures.others
