-- The functions so far break no rule, so the rest decide.
use Rattle.delta_check.proofs.Turns.{BodiesLeft}
use Rattle.delta_check.proofs.checking.check_bodies.Given as goal

abbrev pub invariant-loop-body : goal.invariant-loop-body
invariant-loop-body l = BodiesLeft l.c l.number l.body-index
