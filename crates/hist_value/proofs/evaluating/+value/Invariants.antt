-- What was gathered so far, and then from the rest, is what is gathered from all. Each call goes down, or is
-- nearer to one that does.
use Rattle.std.proofs.Common.{◌≡◌, ◌+◌, ◌*◌, max, drop, map}
use Rattle.hist_value.specs.declared.expr.Expr.{size-Expr}
use Rattle.hist_value.specs.HistExpr.{expr_of}
use Rattle.hist_value.specs.HistValue.{hist_value_of, list_of}
use Rattle.hist_value.specs.Evaluate.{gather, gathering}
use Rattle.hist_value.specs.Scope.{past_of}
use Rattle.hist_value.proofs.evaluating.+value.Given as goal

abbrev pub invariant-gather-loop-item : goal.invariant-gather-loop-item
invariant-gather-loop-item l =
    gather (gathering (expr_of l.body) l.x.0 l.y.0 (past_of l.scope)) (hist_value_of l.fn.start) (list_of (map hist_value_of l.items))
    ≡ gather (gathering (expr_of l.body) l.x.0 l.y.0 (past_of l.scope)) (hist_value_of l.gathered) (list_of (map hist_value_of (drop l.item-index l.items)))

abbrev pub decreases-value_in : goal.decreases-value_in
decreases-value_in l = 3 * size-Expr l.e.now

abbrev pub decreases-reckoned : goal.decreases-reckoned
decreases-reckoned l = max (3 * size-Expr l.a.now) (3 * size-Expr l.b.now) + 1

abbrev pub decreases-pair_of : goal.decreases-pair_of
decreases-pair_of l = max (3 * size-Expr l.a.now) (3 * size-Expr l.b.now) + 1

abbrev pub decreases-put_in_front : goal.decreases-put_in_front
decreases-put_in_front l = max (3 * size-Expr l.a.now) (3 * size-Expr l.b.now) + 1

abbrev pub decreases-left_of : goal.decreases-left_of
decreases-left_of l = 3 * size-Expr l.a.now + 1

abbrev pub decreases-right_of : goal.decreases-right_of
decreases-right_of l = 3 * size-Expr l.a.now + 1

abbrev pub decreases-chosen : goal.decreases-chosen
decreases-chosen l = max (3 * size-Expr l.a.now) (max (3 * size-Expr l.b.now) (3 * size-Expr l.c.now)) + 1

abbrev pub decreases-folded : goal.decreases-folded
decreases-folded l = max (3 * size-Expr l.a.now) (max (3 * size-Expr l.s.now) (3 * size-Expr l.b.now)) + 2

abbrev pub decreases-gather : goal.decreases-gather
decreases-gather l = 3 * size-Expr l.body.now + 1
