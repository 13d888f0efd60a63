-- The row so far has the facts on the names seen.
use Rattle.std.proofs.Common.{◌≡◌, take, map}
use Rattle.bunch.specs.Names.{numbers_of}
use Rattle.bunch.specs.BunchTree.{tree_of, stands_before}
use Rattle.bunch.proofs.table.row_of.Given as goal

abbrev pub invariant-loop-y : goal.invariant-loop-y
invariant-loop-y l = l.row.items ≡ map (stands_before (tree_of l.b) l.x.0) (numbers_of (take l.y-index l.names))
