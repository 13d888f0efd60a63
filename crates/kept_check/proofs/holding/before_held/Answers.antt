-- The types and the order are those of the context.
use Rattle.std.proofs.Common.{map}
use Rattle.delta_check.specs.Scopes.{context_in}
use Rattle.delta_keep.specs.KeptView.{held_of}
use Rattle.kept_check.proofs.Contexts.{held_is}
use Rattle.kept_check.proofs.holding.before_held.Goals as goal

pub returns : goal.returns
returns c = held_is c.in_ok-types.types.items c.in_ok-order.order.items (map held_of c.args.held.now) (context_in c.args.scope.now).order c.in_ok-types.ensures c.in_ok-order.ensures
