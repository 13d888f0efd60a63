-- None of those seen so far says so, so the rest decide.
use Rattle.std.proofs.Common.{◌≡◌, drop}
use Rattle.delta_check.specs.Scopes.{facts_given}
use Rattle.delta_check.proofs.given.has_fact.Given as goal

abbrev pub invariant-loop-fact : goal.invariant-loop-fact
invariant-loop-fact l = facts_given (drop l.fact-index l.facts) l.x.0 l.y.0 ≡ facts_given l.facts l.x.0 l.y.0
