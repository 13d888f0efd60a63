-- What is left to evaluate: what calls may weigh at the place, and the weight of what stands there.
use Rattle.std.proofs.Common.{◌+◌}
use Rattle.delta_tree.specs.Tree.{expression_of, expressions_of, head_of}
use Rattle.delta_meaning.specs.Weights.{weight, weight_after, weight_of_head, weight_of_all, weight_of_calls}
use Rattle.delta_meaning.proofs.evaluation.+evaluate.Given as goal

abbrev pub decreases-evaluate : goal.decreases-evaluate
decreases-evaluate l = weight_of_calls l.place.now + (weight (expression_of l.e.now))

abbrev pub decreases-evaluate_both : goal.decreases-evaluate_both
decreases-evaluate_both l = weight_of_calls l.place.now + (1 + (weight (expression_of l.a.now) + weight (expression_of l.b.now)))

abbrev pub decreases-evaluate_in_turn : goal.decreases-evaluate_in_turn
decreases-evaluate_in_turn l = weight_of_calls l.place.now + (1 + (weight (expression_of l.a.now) + weight (expression_of l.b.now)))

abbrev pub decreases-evaluate_at_type : goal.decreases-evaluate_at_type
decreases-evaluate_at_type l = weight_of_calls l.place.now + (1 + weight (expression_of l.e.now))

abbrev pub decreases-evaluate_wait : goal.decreases-evaluate_wait
decreases-evaluate_wait l = weight_of_calls l.place.now + (1 + weight (expression_of l.e.now))

abbrev pub decreases-evaluate_with_head : goal.decreases-evaluate_with_head
decreases-evaluate_with_head l = weight_of_calls l.place.now + (6 + (weight_of_head (head_of l.h.now) + weight_after (expression_of l.e.now)))

abbrev pub decreases-evaluate_after : goal.decreases-evaluate_after
decreases-evaluate_after l = weight_of_calls l.place.now + (4 + weight_after (expression_of l.e.now))

abbrev pub decreases-evaluate_bound : goal.decreases-evaluate_bound
decreases-evaluate_bound l = weight_of_calls l.place.now + (3 + weight_after (expression_of l.e.now))

abbrev pub decreases-evaluate_two : goal.decreases-evaluate_two
decreases-evaluate_two l = weight_of_calls l.place.now + (1 + weight (expression_of l.e.now))

abbrev pub decreases-evaluate_head : goal.decreases-evaluate_head
decreases-evaluate_head l = weight_of_calls l.place.now + (weight_of_head (head_of l.h.now))

abbrev pub decreases-evaluate_call : goal.decreases-evaluate_call
decreases-evaluate_call l = weight_of_calls l.place.now + (3 + weight_of_all (expressions_of l.es.now))

abbrev pub decreases-evaluate_arguments : goal.decreases-evaluate_arguments
decreases-evaluate_arguments l = weight_of_calls l.place.now + (2 + weight_of_all (expressions_of l.es.now))

abbrev pub decreases-evaluate_body : goal.decreases-evaluate_body
decreases-evaluate_body l = weight_of_calls l.place.now + (1)

abbrev pub decreases-evaluate_star : goal.decreases-evaluate_star
decreases-evaluate_star l = weight_of_calls l.place.now + (2 + (weight (expression_of l.a.now) + weight (expression_of l.b.now)))

abbrev pub decreases-evaluate_left : goal.decreases-evaluate_left
decreases-evaluate_left l = weight_of_calls l.place.now + (1 + weight (expression_of l.a.now))

abbrev pub decreases-evaluate_right : goal.decreases-evaluate_right
decreases-evaluate_right l = weight_of_calls l.place.now + (1 + weight (expression_of l.a.now))

abbrev pub decreases-evaluate_typed : goal.decreases-evaluate_typed
decreases-evaluate_typed l = weight_of_calls l.place.now + (2 + weight (expression_of l.a.now))

abbrev pub decreases-evaluate_if : goal.decreases-evaluate_if
decreases-evaluate_if l = weight_of_calls l.place.now + (1 + (weight (expression_of l.a.now) + weight (expression_of l.b.now)))

abbrev pub decreases-evaluate_let : goal.decreases-evaluate_let
decreases-evaluate_let l = weight_of_calls l.place.now + (5 + weight_after (expression_of l.e.now))

abbrev pub decreases-evaluate_parts : goal.decreases-evaluate_parts
decreases-evaluate_parts l = weight_of_calls l.place.now + (2 + weight (expression_of l.e.now))

abbrev pub decreases-evaluate_side : goal.decreases-evaluate_side
decreases-evaluate_side l = weight_of_calls l.place.now + (2 + (weight (expression_of l.a.now) + weight (expression_of l.b.now)))

abbrev pub decreases-evaluate_item : goal.decreases-evaluate_item
decreases-evaluate_item l = weight_of_calls l.place.now + (2 + (weight (expression_of l.a.now) + weight (expression_of l.b.now)))

abbrev pub decreases-evaluate_one : goal.decreases-evaluate_one
decreases-evaluate_one l = weight_of_calls l.place.now + (1 + weight (expression_of l.e.now))
