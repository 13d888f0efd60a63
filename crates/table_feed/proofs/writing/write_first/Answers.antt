-- Nothing but a number comes here.
use Rattle.table_feed.proofs.WholeRows.{the_number}
use Rattle.table_feed.proofs.writing.write_first.Goals as goal

pub unreachable-requires : goal.unreachable-requires
unreachable-requires c = the_number c.args.first.now c.requires.first c.in_default.not-IntFull
