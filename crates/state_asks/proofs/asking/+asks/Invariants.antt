-- What is left to go through: what calls may weigh at the depth, and the weight of what stands there.
use Rattle.std.proofs.Common.{◌+◌}
use Rattle.machine_parts.specs.Weights.{weight, weight_of_all, weight_of_calls}
use Rattle.template_state.specs.Readers.{op_term, operand_terms}
use Rattle.template_state.specs.Templates.{bodies_in}
use Rattle.state_asks.proofs.asking.+asks.Given as goal

abbrev pub decreases-add_asks_of_code : goal.decreases-add_asks_of_code
decreases-add_asks_of_code l = weight_of_calls l.k (bodies_in l.code.now) + weight (op_term l.n.now.value)

abbrev pub decreases-add_both : goal.decreases-add_both
decreases-add_both l = weight_of_calls l.k (bodies_in l.code.now) + (1 + (weight (op_term l.a.now.value) + weight (op_term l.b.now.value)))

abbrev pub decreases-add_in_turn : goal.decreases-add_in_turn
decreases-add_in_turn l = weight_of_calls l.k (bodies_in l.code.now) + (1 + (weight (op_term l.a.now.value) + weight (op_term l.b.now.value)))

abbrev pub decreases-add_let : goal.decreases-add_let
decreases-add_let l = weight_of_calls l.k (bodies_in l.code.now) + (1 + (weight (op_term l.a.now.value) + weight (op_term l.b.now.value)))

abbrev pub decreases-add_sum : goal.decreases-add_sum
decreases-add_sum l = weight_of_calls l.k (bodies_in l.code.now) + (1 + (weight (op_term l.a.now.value) + weight (op_term l.b.now.value)))

abbrev pub decreases-add_star : goal.decreases-add_star
decreases-add_star l = weight_of_calls l.k (bodies_in l.code.now) + (1 + (weight (op_term l.a.now.value) + weight (op_term l.b.now.value)))

abbrev pub decreases-add_pair : goal.decreases-add_pair
decreases-add_pair l = weight_of_calls l.k (bodies_in l.code.now) + (1 + weight (op_term l.a.now.value))

abbrev pub decreases-add_row : goal.decreases-add_row
decreases-add_row l = weight_of_calls l.k (bodies_in l.code.now) + (1 + weight (op_term l.a.now.value))

abbrev pub decreases-add_wait : goal.decreases-add_wait
decreases-add_wait l = weight_of_calls l.k (bodies_in l.code.now) + (1 + weight (op_term l.a.now.value))

abbrev pub decreases-add_call : goal.decreases-add_call
decreases-add_call l = weight_of_calls l.k (bodies_in l.code.now) + (3 + weight_of_all (operand_terms l.es.now))

abbrev pub decreases-add_arguments : goal.decreases-add_arguments
decreases-add_arguments l = weight_of_calls l.k (bodies_in l.code.now) + (2 + weight_of_all (operand_terms l.es.now))

abbrev pub decreases-add_called : goal.decreases-add_called
decreases-add_called l = weight_of_calls l.k (bodies_in l.code.now)
