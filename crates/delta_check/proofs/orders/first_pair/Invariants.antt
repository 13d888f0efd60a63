-- Nothing was found so far, so the rest decide.
use Rattle.std.proofs.Common.{◌≡◌, drop}
use Rattle.bunch.specs.Names.{numbers_of}
use Rattle.core_term.specs.TypeFaults.{first_pair}
use Rattle.delta_check.specs.Scopes.{context_in}
use Rattle.delta_check.proofs.orders.first_pair.Given as goal

abbrev pub invariant-loop-x : goal.invariant-loop-x
invariant-loop-x l =
    first_pair (context_in l.scope) (numbers_of (drop l.x-index l.left)) (numbers_of l.right) ≡ first_pair (context_in l.scope) (numbers_of l.left) (numbers_of l.right)
