-- Nothing was found so far, so the rest decide.
use Rattle.std.proofs.Common.{◌≡◌, ℕ, drop, map}
use Rattle.bunch.specs.Names.{numbers_of}
use Rattle.bunch.specs.BunchTree.{tree_of}
use Rattle.core_term.specs.CoreTerm.{term_of, terms_from}
use Rattle.core_term.specs.TypeFaults.{first_found}
use Rattle.delta_check.specs.Passing.{pair_at}
use Rattle.delta_check.specs.Scopes.{context_in}
use Rattle.delta_check.proofs.passing.first_from.Given as goal

abbrev pub invariant-loop-v : goal.invariant-loop-v
invariant-loop-v l =
    first_found {B = ℕ × ℕ} (pair_at (context_in l.scope) (tree_of l.params) (numbers_of l.names) (terms_from (map term_of l.arguments)) l.u.0) (numbers_of (drop l.v-index l.names)) ≡ first_found {B = ℕ × ℕ} (pair_at (context_in l.scope) (tree_of l.params) (numbers_of l.names) (terms_from (map term_of l.arguments)) l.u.0) (numbers_of l.names)
