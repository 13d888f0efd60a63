-- The names of one expression more, and of all.
use Rattle.std.proofs.Common.{ℕ, List, map, refl}
use Rattle.hist_value.specs.declared.expr.Expr.{Expr}
use Rattle.hist_value.specs.HistExpr.{expr_of}
use Rattle.core_term.specs.FreeNames.{bound_in_expr, bound_in_exprs}
use Rattle.kept_check.proofs.NameLists.{next_found, all_found}
use Rattle.kept_check.proofs.bound.add_bound_in_exprs.Goals as goal

abbrev bound_by : List Expr → List ℕ
bound_by exprs = bound_in_exprs (map expr_of exprs)

pub loop-expr-preserved : goal.loop-expr-preserved
loop-expr-preserved c =
    next_found bound_by (λ n. bound_in_expr (expr_of n)) c.args.exprs.now c.loop-expr.expr-index c.expr-item.result _ _ _ (λ y ys. refl) c.loop-expr-test.true c.expr-item.is c.in_ok-add_bound_in_expr.ensures c.loop-expr.invariant

pub returns : goal.returns
returns c = all_found bound_by c.args.exprs.now c.loop-expr.expr-index _ _ refl c.loop-expr-test.false c.loop-expr.invariant
