-- Each call goes down, or is nearer to one that does.
use Rattle.std.proofs.Common.{◌+◌, ◌*◌, max}
use Rattle.hist_value.specs.declared.expr.Expr.{size-Expr}
use Rattle.hist_value.proofs.typing.+type_of.Given as goal

abbrev pub decreases-type_in : goal.decreases-type_in
decreases-type_in l = 2 * size-Expr l.e.now

abbrev pub decreases-reckoned_in : goal.decreases-reckoned_in
decreases-reckoned_in l = max (2 * size-Expr l.a.now) (2 * size-Expr l.b.now) + 1

abbrev pub decreases-pair_in : goal.decreases-pair_in
decreases-pair_in l = max (2 * size-Expr l.a.now) (2 * size-Expr l.b.now) + 1

abbrev pub decreases-cons_in : goal.decreases-cons_in
decreases-cons_in l = max (2 * size-Expr l.a.now) (2 * size-Expr l.b.now) + 1

abbrev pub decreases-first_in : goal.decreases-first_in
decreases-first_in l = 2 * size-Expr l.a.now + 1

abbrev pub decreases-second_in : goal.decreases-second_in
decreases-second_in l = 2 * size-Expr l.a.now + 1

abbrev pub decreases-left_in : goal.decreases-left_in
decreases-left_in l = 2 * size-Expr l.a.now + 1

abbrev pub decreases-right_in : goal.decreases-right_in
decreases-right_in l = 2 * size-Expr l.a.now + 1

abbrev pub decreases-choice_in : goal.decreases-choice_in
decreases-choice_in l = max (2 * size-Expr l.a.now) (max (2 * size-Expr l.b.now) (2 * size-Expr l.c.now)) + 1

abbrev pub decreases-fold_in : goal.decreases-fold_in
decreases-fold_in l = max (2 * size-Expr l.a.now) (max (2 * size-Expr l.s.now) (2 * size-Expr l.b.now)) + 1
