-- Nothing so far is of the name, so the rest decide.
use Rattle.std.proofs.Common.{◌≡◌, drop}
use Rattle.delta_check.specs.Scopes.{known_at}
use Rattle.delta_check.proofs.scope.known_at.Given as goal

abbrev pub invariant-loop-fact : goal.invariant-loop-fact
invariant-loop-fact l = known_at (drop l.fact-index l.known) l.x.0 ≡ known_at l.known l.x.0
