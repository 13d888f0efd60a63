-- The row at hand is whole.
use Rattle.table_feed.proofs.WholeRows.{whole_at}
use Rattle.table_feed.proofs.writing.write_rows.Goals as goal

pub write_row-requires-clause-row : goal.write_row-requires-clause-row
write_row-requires-clause-row c = whole_at c.args.rows.now c.loop-row.row-index c.row-item.result c.requires c.loop-row-test.true c.row-item.is
