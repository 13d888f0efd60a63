use Rattle.hist_value.specs.HistExpr.{expr_of}
use Rattle.kept_state.specs.KeptBytes.{expr_bytes}
use Rattle.kept_state.specs.KeptSizes.{FitsExpr}
use Rattle.delta_keep.proofs.PutSizes.{some_more, some_all, expr_filled}
use Rattle.delta_keep.proofs.put_parts.put_exprs.Goals as goal

pub loop-expr-preserved : goal.loop-expr-preserved
loop-expr-preserved c = some_more expr_bytes expr_of FitsExpr c.args.exprs.now c.loop-expr.expr-index c.expr-item.result c.loop-expr-test.true c.expr-item.is c.loop-expr.invariant c.put_expr.ensures.puts c.put_expr.ensures.sizes

pub returns-clause-sizes : goal.returns-clause-sizes
returns-clause-sizes c = some_all expr_bytes expr_of FitsExpr c.args.exprs.now c.loop-expr.expr-index expr_filled c.loop-expr-test.false c.loop-expr.invariant
