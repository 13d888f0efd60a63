-- Each call goes down, or is nearer to one that does.
use Rattle.std.proofs.Common.{◌+◌, ◌*◌, max}
use Rattle.hist_value.specs.declared.expr.Expr.{size-Expr}
use Rattle.delta_elab.proofs.histories.+numbered.Given as goal

abbrev pub decreases-numbered : goal.decreases-numbered
decreases-numbered l = 4 * size-Expr l.m.now

abbrev pub decreases-both : goal.decreases-both
decreases-both l = max (4 * size-Expr l.a.now) (4 * size-Expr l.b.now) + 1

abbrev pub decreases-choice : goal.decreases-choice
decreases-choice l = max (4 * size-Expr l.a.now) (max (4 * size-Expr l.b.now) (4 * size-Expr l.c.now)) + 1

abbrev pub decreases-fold : goal.decreases-fold
decreases-fold l = max (4 * size-Expr l.a.now) (max (4 * size-Expr l.s.now) (4 * size-Expr l.b.now)) + 2
