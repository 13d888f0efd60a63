-- Each call goes down, or is nearer to one that does.
use Rattle.std.proofs.Common.{◌+◌, ◌*◌}
use Rattle.hist_value.specs.declared.expr.Expr.{size-Expr}
use Rattle.state_shapes.proofs.same_code.+same_expr.Given as goal

abbrev pub decreases-same_expr : goal.decreases-same_expr
decreases-same_expr l = 2 * size-Expr l.a.now + 1

abbrev pub decreases-same_reckoned : goal.decreases-same_reckoned
decreases-same_reckoned l = 2 * size-Expr l.a.now

abbrev pub decreases-same_two : goal.decreases-same_two
decreases-same_two l = 2 * size-Expr l.a.now

abbrev pub decreases-same_part : goal.decreases-same_part
decreases-same_part l = 2 * size-Expr l.a.now

abbrev pub decreases-same_choice : goal.decreases-same_choice
decreases-same_choice l = 2 * size-Expr l.a.now

abbrev pub decreases-same_fold : goal.decreases-same_fold
decreases-same_fold l = 2 * size-Expr l.a.now
