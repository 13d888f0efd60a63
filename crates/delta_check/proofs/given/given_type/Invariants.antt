-- None of those seen so far has the name.
use Rattle.std.proofs.Common.{◌≡◌, drop}
use Rattle.core_term.specs.CoreTerm.{typed_names_of}
use Rattle.delta_check.specs.Scopes.{given_at}
use Rattle.delta_check.proofs.given.given_type.Given as goal

abbrev pub invariant-loop-var : goal.invariant-loop-var
invariant-loop-var l = given_at (typed_names_of l.vars) l.x.0 ≡ given_at (typed_names_of (drop l.var-index l.vars)) l.x.0
