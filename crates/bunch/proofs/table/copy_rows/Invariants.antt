-- The copies so far are equal to the rows seen.
use Rattle.std.proofs.Common.{◌≡◌, take}
use Rattle.bunch.specs.Table.{lists_of}
use Rattle.bunch.proofs.table.copy_rows.Given as goal

abbrev pub invariant-loop-row : goal.invariant-loop-row
invariant-loop-row l = lists_of l.copies.items ≡ lists_of (take l.row-index l.rows)
