-- Each call goes down a level, or is nearer to one that does.
use Rattle.std.proofs.Common.{◌+◌, ◌*◌}
use Rattle.delta_keep.proofs.read_exprs.+read_exprs.Given as goal

abbrev pub decreases-read_expr : goal.decreases-read_expr
decreases-read_expr l = 4 * l.left

abbrev pub decreases-two_exprs : goal.decreases-two_exprs
decreases-two_exprs l = 4 * l.left + 1

abbrev pub decreases-read_bin : goal.decreases-read_bin
decreases-read_bin l = 4 * l.left + 2

abbrev pub decreases-read_choice : goal.decreases-read_choice
decreases-read_choice l = 4 * l.left + 2

abbrev pub decreases-read_fold : goal.decreases-read_fold
decreases-read_fold l = 4 * l.left + 2
