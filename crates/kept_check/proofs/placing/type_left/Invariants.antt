-- None of those seen so far has the name.
use Rattle.std.proofs.Common.{◌≡◌, drop}
use Rattle.kept_check.specs.Given.{type_given}
use Rattle.kept_check.proofs.placing.type_left.Given as goal

abbrev pub invariant-loop-entry : goal.invariant-loop-entry
invariant-loop-entry l = type_given l.left l.x.0 ≡ type_given (drop l.entry-index l.left) l.x.0
