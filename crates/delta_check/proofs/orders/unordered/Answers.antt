-- Each free name counts once.
use Rattle.std.proofs.Common.{◌∙◌}
use Rattle.core_term.specs.CoreTerm.{term_of}
use Rattle.core_term.specs.FreeNames.{free_names}
use Rattle.delta_check.specs.Scopes.{context_in}
use Rattle.delta_check.proofs.Once.{first_pair_once}
use Rattle.delta_check.proofs.orders.unordered.Goals as goal

pub returns : goal.returns
returns c =
    rw (c.deref.ensures.value, c.deref-2.ensures.value, c.in_ok-left.ensures, c.in_ok-right.ensures) at c.first_pair.ensures
    ∙ first_pair_once (context_in c.args.scope.now) (free_names (term_of c.args.a.now)) (free_names (term_of c.args.b.now))
