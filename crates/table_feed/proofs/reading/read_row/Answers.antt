-- A record of so many fields is read from its first column on.
use Rattle.std.proofs.Common.{rules}
use Rattle.table_feed.proofs.reading.read_row.Goals as goal

pub read_item-requires-clause-columns : goal.read_item-requires-clause-columns
read_item-requires-clause-columns c = search rules
