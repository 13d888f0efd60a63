-- The longer rows so far and those still to come are all of them.
use Rattle.std.proofs.Common.{◌≡◌, ◌++◌, drop}
use Rattle.bunch.specs.Table.{lists_of, with_column}
use Rattle.bunch.proofs.table.grown.Given as goal

abbrev pub invariant-loop-i : goal.invariant-loop-i
invariant-loop-i l =
    lists_of l.longer.items ++ with_column (lists_of (drop l.i l.rows)) (drop l.i l.befores) ≡ with_column (lists_of l.rows) l.befores
