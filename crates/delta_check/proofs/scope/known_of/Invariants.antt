-- What is known so far is what the free names say.
use Rattle.bunch.specs.Names.{numbers_of}
use Rattle.delta_check.specs.Scopes.{context_in, IsKnown}
use Rattle.delta_check.proofs.scope.known_of.Given as goal

abbrev pub invariant-loop-name : goal.invariant-loop-name
invariant-loop-name l = IsKnown l.known.items (numbers_of l.free) l.inert (context_in l.scope).order
