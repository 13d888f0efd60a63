-- The marks after so many rounds.
use Rattle.core_term.specs.CoreTerm.{core_of}
use Rattle.delta_check.proofs.Rounds.{IsAfter}
use Rattle.delta_check.proofs.inertness.inert_funs.Given as goal

abbrev pub invariant-loop-round : goal.invariant-loop-round
invariant-loop-round l = IsAfter (core_of l.c).funs l.marks.items l._round
