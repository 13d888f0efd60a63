-- The facts of one parameter more, and those of all.
use Rattle.delta_check.specs.Scopes.{context_in, facts_given}
use Rattle.delta_keep.specs.KeptView.{arguments_from}
use Rattle.kept_check.specs.Arguments.{are_in_order}
use Rattle.kept_check.proofs.ParameterFacts.{order_more, order_whole}
use Rattle.kept_check.proofs.checking.parameter_order.Goals as goal

pub loop-arg-preserved : goal.loop-arg-preserved
loop-arg-preserved c =
    let context = context_in c.args.scope.now in
    let args = c.args.args.now in
    order_more context args c.loop-arg.arg-index c.arg-item.result c.in_ok-free.free.items (facts_given c.loop-arg.facts.items) (facts_given c.add_order.new.facts.items)
    (λ x y. are_in_order context (arguments_from args) (arguments_from args) x y) c.loop-arg-test.true c.arg-item.is (rw c.deref.ensures at c.in_ok-free.ensures)
    (rw c.deref-in-loop-arg.ensures.value at c.in_ok-add_order.ensures) c.loop-arg.invariant

pub returns : goal.returns
returns c = order_whole (context_in c.args.scope.now) c.args.args.now c.loop-arg.arg-index (facts_given c.loop-arg.facts.items) c.loop-arg-test.false c.requires c.loop-arg.invariant
