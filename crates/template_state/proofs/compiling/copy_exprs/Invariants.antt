-- The copies so far are equal to the expressions seen so far.
use Rattle.std.proofs.Common.{◌≡◌, take, map}
use Rattle.hist_value.specs.HistExpr.{expr_of}
use Rattle.template_state.proofs.compiling.copy_exprs.Given as goal

abbrev pub invariant-loop-expr : goal.invariant-loop-expr
invariant-loop-expr l = map expr_of l.copies.items ≡ map expr_of (take l.expr-index l.exprs)
