-- With the names of the expressions left, those found so far are all that they bind.
use Rattle.std.proofs.Common.{◌≡◌, drop, map, ◌++◌}
use Rattle.bunch.specs.Names.{numbers_of}
use Rattle.hist_value.specs.HistExpr.{expr_of}
use Rattle.core_term.specs.FreeNames.{bound_in_exprs}
use Rattle.kept_check.proofs.bound.add_bound_in_exprs.Given as goal

abbrev pub invariant-loop-expr : goal.invariant-loop-expr
invariant-loop-expr l =
    numbers_of l.found.items ++ bound_in_exprs (map expr_of (drop l.expr-index l.exprs)) ≡ numbers_of l.fn.found.items ++ bound_in_exprs (map expr_of l.exprs)
