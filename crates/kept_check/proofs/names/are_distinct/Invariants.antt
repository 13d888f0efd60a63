-- No name stands twice among those so far.
use Rattle.std.proofs.Common.{IsTrue, take}
use Rattle.bunch.specs.Names.{numbers_of}
use Rattle.core_term.specs.FreeNames.{is_distinct}
use Rattle.kept_check.proofs.names.are_distinct.Given as goal

abbrev pub invariant-loop-i : goal.invariant-loop-i
invariant-loop-i l = IsTrue (is_distinct (numbers_of (take l.i l.names)))
