use Rattle.std.proofs.Common.{◌+◌, ◌*◌, length}
use Rattle.delta_parse.proofs.type_reader.+types.Given as goal

abbrev pub decreases-read_sum : goal.decreases-read_sum
decreases-read_sum l = length l.tokens.now * 8 + 5

abbrev pub decreases-read_par : goal.decreases-read_par
decreases-read_par l = length l.tokens.now * 8 + 4

abbrev pub decreases-read_cat : goal.decreases-read_cat
decreases-read_cat l = length l.tokens.now * 8 + 3

abbrev pub decreases-read_star : goal.decreases-read_star
decreases-read_star l = length l.tokens.now * 8 + 2

abbrev pub decreases-read_base : goal.decreases-read_base
decreases-read_base l = length l.tokens.now * 8 + 1
