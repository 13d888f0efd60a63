-- Each of those seen so far stands before the second names, so the rest decide.
use Rattle.std.proofs.Common.{◌≡◌, drop}
use Rattle.bunch.specs.Names.{numbers_of}
use Rattle.delta_check.specs.Scopes.{context_in}
use Rattle.kept_check.specs.Arguments.{are_before}
use Rattle.kept_check.proofs.rules.all_before.Given as goal

abbrev pub invariant-loop-x : goal.invariant-loop-x
invariant-loop-x l = are_before (context_in l.scope) (numbers_of (drop l.x-index l.first)) (numbers_of l.second) ≡ are_before (context_in l.scope) (numbers_of l.first) (numbers_of l.second)
