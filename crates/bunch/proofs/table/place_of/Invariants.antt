-- The name isn't before the index: its place is among the rest.
use Rattle.std.proofs.Common.{◌≡◌, ◌+◌, drop}
use Rattle.bunch.specs.Names.{numbers_of, place_in}
use Rattle.bunch.proofs.table.place_of.Given as goal

abbrev pub invariant-loop-i : goal.invariant-loop-i
invariant-loop-i l = place_in l.x.0 (numbers_of l.names) ≡ l.i + place_in l.x.0 (numbers_of (drop l.i l.names))
