use Rattle.std.proofs.Common.{◌+◌, ◌*◌, length}
use Rattle.delta_parse.proofs.history_reader.+histories.Given as goal

abbrev pub decreases-history : goal.decreases-history
decreases-history l = length l.tokens.now * 16 + 8

abbrev pub decreases-read_fold : goal.decreases-read_fold
decreases-read_fold l = length l.tokens.now * 16 + 7

abbrev pub decreases-read_choice : goal.decreases-read_choice
decreases-read_choice l = length l.tokens.now * 16 + 7

abbrev pub decreases-read_branch : goal.decreases-read_branch
decreases-read_branch l = length l.tokens.now * 16 + 0

abbrev pub decreases-read_comparison : goal.decreases-read_comparison
decreases-read_comparison l = length l.tokens.now * 16 + 6

abbrev pub decreases-read_sum : goal.decreases-read_sum
decreases-read_sum l = length l.tokens.now * 16 + 5

abbrev pub decreases-read_summands : goal.decreases-read_summands
decreases-read_summands l = length l.tokens.now * 16 + 0

abbrev pub decreases-read_product : goal.decreases-read_product
decreases-read_product l = length l.tokens.now * 16 + 4

abbrev pub decreases-read_factors : goal.decreases-read_factors
decreases-read_factors l = length l.tokens.now * 16 + 0

abbrev pub decreases-read_unary : goal.decreases-read_unary
decreases-read_unary l = length l.tokens.now * 16 + 3

abbrev pub decreases-read_history_atom : goal.decreases-read_history_atom
decreases-read_history_atom l = length l.tokens.now * 16 + 1

abbrev pub decreases-read_history_bracket : goal.decreases-read_history_bracket
decreases-read_history_bracket l = length l.tokens.now * 16 + 0

abbrev pub decreases-read_fold_on : goal.decreases-read_fold_on
decreases-read_fold_on l = length l.tokens.now * 16 + 9

abbrev pub decreases-read_choice_on : goal.decreases-read_choice_on
decreases-read_choice_on l = length l.tokens.now * 16 + 1

abbrev pub decreases-read_second : goal.decreases-read_second
decreases-read_second l = length l.tokens.now * 16 + 0
