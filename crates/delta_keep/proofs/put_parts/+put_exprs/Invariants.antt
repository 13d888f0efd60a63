-- Each call goes down, or is nearer to one that does.
use Rattle.std.proofs.Common.{◌+◌, ◌*◌, max}
use Rattle.hist_value.specs.declared.expr.Expr.{size-Expr}
use Rattle.delta_keep.proofs.put_parts.+put_exprs.Given as goal

abbrev pub decreases-put_expr : goal.decreases-put_expr
decreases-put_expr l = 3 * size-Expr l.m.now

abbrev pub decreases-put_one_expr : goal.decreases-put_one_expr
decreases-put_one_expr l = 3 * size-Expr l.a.now + 1

abbrev pub decreases-put_two_exprs : goal.decreases-put_two_exprs
decreases-put_two_exprs l = max (3 * size-Expr l.a.now) (3 * size-Expr l.b.now) + 1

abbrev pub decreases-put_choice : goal.decreases-put_choice
decreases-put_choice l = max (3 * size-Expr l.a.now) (max (3 * size-Expr l.b.now) (3 * size-Expr l.c.now)) + 2

abbrev pub decreases-put_fold : goal.decreases-put_fold
decreases-put_fold l = max (3 * size-Expr l.a.now) (max (3 * size-Expr l.s.now) (3 * size-Expr l.b.now)) + 2
