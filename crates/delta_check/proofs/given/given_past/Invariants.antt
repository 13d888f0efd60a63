-- None of those seen so far has the name.
use Rattle.std.proofs.Common.{◌≡◌, drop}
use Rattle.delta_check.specs.Scopes.{given_at, historical_of}
use Rattle.delta_check.proofs.given.given_past.Given as goal

abbrev pub invariant-loop-entry : goal.invariant-loop-entry
invariant-loop-entry l = given_at (historical_of l.past) l.x.0 ≡ given_at (historical_of (drop l.entry-index l.past)) l.x.0
