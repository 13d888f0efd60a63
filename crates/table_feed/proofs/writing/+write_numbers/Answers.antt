-- Nothing but a whole row comes here.
use Rattle.table_feed.proofs.WholeRows.{the_row, on_ok_then}
use Rattle.table_feed.proofs.writing.+write_numbers.Goals as goal

pub unreachable-requires : goal.unreachable-requires
unreachable-requires t c = the_row c.args.row.now c.requires.row c.in_default.not-IntFull c.in_default.not-CatBoth

pub returns-in_ok-write_first-in-CatBoth-clause-ascii : goal.returns-in_ok-write_first-in-CatBoth-clause-ascii
returns-in_ok-write_first-in-CatBoth-clause-ascii t c = on_ok_then c.write_numbers.result _ _ (λ later before. later (c.in_ok-write_first-in-CatBoth.ensures.ascii before)) c.write_numbers.ensures.ascii
