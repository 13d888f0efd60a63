-- One expression more is copied, and all are.
use Rattle.hist_value.specs.HistExpr.{expr_of}
use Rattle.template_state.proofs.Making.{made_next, made_whole}
use Rattle.template_state.proofs.compiling.copy_exprs.Goals as goal

pub loop-expr-preserved : goal.loop-expr-preserved
loop-expr-preserved c =
    made_next expr_of expr_of c.loop-expr.copies.items _ c.args.exprs.now c.loop-expr.expr-index c.expr-item.result c.copy_expr.result c.loop-expr-test.true c.expr-item.is c.copy_expr.ensures c.in_ok-copies.ensures c.loop-expr.invariant

pub returns : goal.returns
returns c = made_whole expr_of expr_of c.loop-expr.copies.items c.args.exprs.now c.loop-expr.expr-index c.loop-expr-test.false c.loop-expr.invariant
