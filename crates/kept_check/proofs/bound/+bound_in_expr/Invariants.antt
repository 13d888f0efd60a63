-- Each call goes down, or is nearer to one that does.
use Rattle.std.proofs.Common.{◌+◌, ◌*◌, max}
use Rattle.hist_value.specs.declared.expr.Expr.{size-Expr}
use Rattle.kept_check.proofs.bound.+bound_in_expr.Given as goal

abbrev pub decreases-add_bound_in_expr : goal.decreases-add_bound_in_expr
decreases-add_bound_in_expr l = 3 * size-Expr l.m.now

abbrev pub decreases-add_of_two : goal.decreases-add_of_two
decreases-add_of_two l = max (3 * size-Expr l.a.now) (3 * size-Expr l.b.now) + 1

abbrev pub decreases-add_of_three : goal.decreases-add_of_three
decreases-add_of_three l = max (max (3 * size-Expr l.a.now) (3 * size-Expr l.b.now)) (3 * size-Expr l.c.now) + 2
