use Rattle.std.proofs.Common.{◌≡◌, ◌+◌, ◌*◌, ◌-◌, ◌≤◌, [], ◌∷◌, map, length, drop}
use Rattle.delta_tree.specs.Tree.{expression_of}
use Rattle.delta_parse.specs.Terminals.{plains}
use Rattle.delta_parse.specs.Parts.{more_expressions}
use Rattle.delta_parse.specs.Tables.{reading}
use Rattle.delta_parse.specs.Readers.{behind}
use Rattle.delta_parse.proofs.expression_reader.+expressions.Given as goal

abbrev pub decreases-read_expression : goal.decreases-read_expression
decreases-read_expression l = length l.tokens.now * 16 + 8

abbrev pub decreases-read_let : goal.decreases-read_let
decreases-read_let l = length l.tokens.now * 16 + 7

abbrev pub decreases-read_wait : goal.decreases-read_wait
decreases-read_wait l = length l.tokens.now * 16 + 7

abbrev pub decreases-read_if : goal.decreases-read_if
decreases-read_if l = length l.tokens.now * 16 + 7

abbrev pub decreases-read_head : goal.decreases-read_head
decreases-read_head l = length l.tokens.now * 16 + 2

abbrev pub decreases-read_application : goal.decreases-read_application
decreases-read_application l = length l.tokens.now * 16 + 6

abbrev pub decreases-read_atom : goal.decreases-read_atom
decreases-read_atom l = length l.tokens.now * 16 + 5

abbrev pub decreases-read_name : goal.decreases-read_name
decreases-read_name l = length l.tokens.now * 16 + 4

abbrev pub decreases-read_bracket : goal.decreases-read_bracket
decreases-read_bracket l = length l.tokens.now * 16 + 4

abbrev pub decreases-read_ending : goal.decreases-read_ending
decreases-read_ending l = length l.tokens.now * 16 + 0

abbrev pub decreases-read_case : goal.decreases-read_case
decreases-read_case l = length l.tokens.now * 16 + 4

abbrev pub decreases-read_arms : goal.decreases-read_arms
decreases-read_arms l = length l.tokens.now * 16 + 2

abbrev pub decreases-read_sum_arms : goal.decreases-read_sum_arms
decreases-read_sum_arms l = length l.tokens.now * 16 + 1

abbrev pub decreases-read_star_arms : goal.decreases-read_star_arms
decreases-read_star_arms l = length l.tokens.now * 16 + 1

abbrev pub decreases-read_arguments : goal.decreases-read_arguments
decreases-read_arguments l = length l.tokens.now * 16 + 3

abbrev pub decreases-read_expressions : goal.decreases-read_expressions
decreases-read_expressions l = length l.tokens.now * 16 + 10

abbrev pub decreases-read_expression_items : goal.decreases-read_expression_items
decreases-read_expression_items l = length l.tokens.now * 16 + 9

abbrev pub decreases-read_more_expressions : goal.decreases-read_more_expressions
decreases-read_more_expressions l = length l.tokens.now * 16 + 0

abbrev pub invariant-read_more_expressions-items : goal.invariant-read_more_expressions-items
invariant-read_more_expressions-items l = record {
  within : l.at ≤ length l.tokens;
  so_far : behind (map expression_of l.found.items) (reading more_expressions (plains (drop l.at l.tokens))) ≡ behind (expression_of l.fn.first ∷ []) (reading more_expressions (plains l.tokens));
}

abbrev pub decreases-read_more_expressions-items : goal.decreases-read_more_expressions-items
decreases-read_more_expressions-items l = length l.tokens - l.at
