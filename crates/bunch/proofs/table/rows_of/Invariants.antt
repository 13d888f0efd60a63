-- The rows so far are those of the names seen.
use Rattle.std.proofs.Common.{◌≡◌, take, map}
use Rattle.bunch.specs.Names.{numbers_of}
use Rattle.bunch.specs.BunchTree.{tree_of, stands_before}
use Rattle.bunch.specs.Table.{lists_of}
use Rattle.bunch.proofs.table.rows_of.Given as goal

abbrev pub invariant-loop-x : goal.invariant-loop-x
invariant-loop-x l =
    lists_of l.rows.items ≡ map (λ x. map (stands_before (tree_of l.b) x) (numbers_of l.names)) (numbers_of (take l.x-index l.names))
