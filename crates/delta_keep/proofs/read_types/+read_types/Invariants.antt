-- Each call goes down a level, or is nearer to one that does.
use Rattle.std.proofs.Common.{◌+◌, ◌*◌}
use Rattle.delta_keep.proofs.read_types.+read_types.Given as goal

abbrev pub decreases-read_type : goal.decreases-read_type
decreases-read_type l = 2 * l.left

abbrev pub decreases-two_types : goal.decreases-two_types
decreases-two_types l = 2 * l.left + 1
