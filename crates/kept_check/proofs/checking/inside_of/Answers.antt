-- The types and the order are those of the context.
use Rattle.delta_check.specs.Scopes.{context_in}
use Rattle.kept_check.proofs.ParameterFacts.{body_context}
use Rattle.kept_check.proofs.checking.inside_of.Goals as goal

pub returns-clause-scope : goal.returns-clause-scope
returns-clause-scope c = body_context (context_in c.args.scope.now) c.args.args.now c.in_ok-types.types.items c.in_ok-order.order.items c.in_ok-types.ensures c.in_ok-order.ensures
