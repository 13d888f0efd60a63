-- The fact of the next argument is put, or there is none.
use Rattle.std.proofs.Common.{◌∙◌, ap}
use Rattle.bunch.specs.Names.{numbers_of}
use Rattle.delta_check.specs.Scopes.{context_in}
use Rattle.kept_check.proofs.ParameterFacts.{row_then, row_else, row_whole}
use Rattle.kept_check.proofs.checking.add_order.Goals as goal
use Rattle.kept_check.proofs.checking.add_order.Goals.{then-branch+in_ok-push, else-branch}

pub loop-arg-preserved : goal.loop-arg-preserved
loop-arg-preserved c =
    let context = context_in c.args.scope.now in
    let xs = numbers_of c.args.free.now in
    let a = c.arg-item.result in
    let test = rw c.deref.ensures at c.in_ok-stands_before.ensures in
    elim c.if-branch.branch [
      | then-branch+in_ok-push w ↦
          row_then context c.args.u xs c.args.args.now c.loop-arg.arg-index a c.loop-arg.facts.items c.if-branch.facts.items _ c.in_ok-stands_before.field-0 c.loop-arg-test.true c.arg-item.is test w.if-branch.true
          (ap (λ v. v.items) w.facts-is ∙ w.in_ok-push.ensures.items) c.loop-arg.invariant
      | else-branch w ↦
          rw w.facts-is (row_else context c.args.u xs c.args.args.now c.loop-arg.arg-index a c.loop-arg.facts.items _ c.in_ok-stands_before.field-0 c.loop-arg-test.true c.arg-item.is test w.if-branch.false c.loop-arg.invariant)
    ]

pub returns : goal.returns
returns c = row_whole (context_in c.args.scope.now) c.args.u (numbers_of c.args.free.now) c.args.args.now c.loop-arg.arg-index c.loop-arg.facts.items _ c.loop-arg-test.false c.loop-arg.invariant
