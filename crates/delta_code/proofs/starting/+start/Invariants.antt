-- What is left to go through: what calls may weigh at the depth, and the weight of what stands there.
use Rattle.std.proofs.Common.{◌≡◌, ◌≤◌, ◌+◌, ◌*◌, max}
use Rattle.stream_type.specs.StreamType.{type_of}
use Rattle.core_term.specs.CoreTerm.{cons_term, let_term}
use Rattle.machine_parts.specs.Scope.{types_in, streams_in, types_over, streams_over}
use Rattle.machine_parts.specs.Weights.{weight, weight_of_all, weight_of_calls}
use Rattle.template_state.specs.Readers.{op_term, operand_terms}
use Rattle.template_state.specs.Templates.{bodies_in}
use Rattle.delta_code.specs.Eased.{Eased}
use Rattle.delta_code.specs.Steps.{op_run, op_rest, run_where, rest_where}
use Rattle.delta_code.specs.Way.{within, after, reached_run, reached_rest, reached_calls, reached_level}
use Rattle.delta_code.proofs.Chain.{Chained}
use Rattle.delta_code.proofs.Lets.{Nested}
use Rattle.delta_code.proofs.starting.+start.Given as goal

abbrev pub decreases-start_term : goal.decreases-start_term
decreases-start_term l = 4 * (weight_of_calls l.k (bodies_in l.code.now) + weight (op_term l.n.now.value)) + 3

abbrev pub decreases-go_on : goal.decreases-go_on
decreases-go_on l = 4 * weight_of_calls l.k (bodies_in l.code.now) + 6

abbrev pub decreases-enter : goal.decreases-enter
decreases-enter l = 4 * weight_of_calls l.k (bodies_in l.code.now) + 5

abbrev pub decreases-start_body : goal.decreases-start_body
decreases-start_body l = 4 * weight_of_calls l.k (bodies_in l.code.now) + 7

abbrev pub decreases-reach : goal.decreases-reach
decreases-reach l = 4 * (weight_of_calls l.k (bodies_in l.code.now) + weight (op_term l.n.now.value))

abbrev pub decreases-reach_let : goal.decreases-reach_let
decreases-reach_let l = 4 * (weight_of_calls l.k (bodies_in l.code.now) + (1 + (weight (op_term l.a.now.value) + weight (op_term l.b.now.value))))

abbrev pub decreases-reach_sum : goal.decreases-reach_sum
decreases-reach_sum l = 4 * (weight_of_calls l.k (bodies_in l.code.now) + (1 + (weight (op_term l.a.now.value) + weight (op_term l.b.now.value))))

abbrev pub decreases-reach_star : goal.decreases-reach_star
decreases-reach_star l = 4 * (weight_of_calls l.k (bodies_in l.code.now) + (1 + (weight (op_term l.a.now.value) + weight (op_term l.b.now.value))))

abbrev pub decreases-start_both : goal.decreases-start_both
decreases-start_both l = 4 * (weight_of_calls l.k (bodies_in l.code.now) + (1 + (weight (op_term l.a.now.value) + weight (op_term l.b.now.value))))

abbrev pub decreases-start_in_turn : goal.decreases-start_in_turn
decreases-start_in_turn l = 4 * (weight_of_calls l.k (bodies_in l.code.now) + (1 + (weight (op_term l.a.now.value) + weight (op_term l.b.now.value))))

abbrev pub decreases-reach_cons : goal.decreases-reach_cons
decreases-reach_cons l = 4 * (weight_of_calls l.k (bodies_in l.code.now) + (2 + (weight (op_term l.a.now.value) + weight (op_term l.b.now.value))))

abbrev pub decreases-reach_pair : goal.decreases-reach_pair
decreases-reach_pair l = 4 * (weight_of_calls l.k (bodies_in l.code.now) + (1 + weight (op_term l.a.now.value)))

abbrev pub decreases-reach_row : goal.decreases-reach_row
decreases-reach_row l = 4 * (weight_of_calls l.k (bodies_in l.code.now) + (1 + weight (op_term l.a.now.value)))

abbrev pub decreases-start_left : goal.decreases-start_left
decreases-start_left l = 4 * (weight_of_calls l.k (bodies_in l.code.now) + (1 + weight (op_term l.a.now.value)))

abbrev pub decreases-start_right : goal.decreases-start_right
decreases-start_right l = 4 * (weight_of_calls l.k (bodies_in l.code.now) + (1 + weight (op_term l.a.now.value)))

abbrev pub decreases-reach_wait : goal.decreases-reach_wait
decreases-reach_wait l = 4 * (weight_of_calls l.k (bodies_in l.code.now) + (1 + weight (op_term l.a.now.value)))

abbrev pub decreases-reach_call : goal.decreases-reach_call
decreases-reach_call l = 4 * (weight_of_calls l.k (bodies_in l.code.now) + (3 + weight_of_all (operand_terms l.es.now)))

abbrev pub decreases-start_arguments : goal.decreases-start_arguments
decreases-start_arguments l = 4 * (weight_of_calls l.k (bodies_in l.code.now) + (2 + weight_of_all (operand_terms l.es.now)))

abbrev pub decreases-start_unnamed : goal.decreases-start_unnamed
decreases-start_unnamed l = 4 * (weight_of_calls l.k (bodies_in l.code.now) + (2 + (weight (op_term l.e.now.value) + weight_of_all (operand_terms l.more.now)))) + 1

abbrev pub decreases-start_argument : goal.decreases-start_argument
decreases-start_argument l = 4 * (weight_of_calls l.k (bodies_in l.code.now) + (2 + (weight (op_term l.e.now.value) + weight_of_all (operand_terms l.more.now)))) + 1

-- what is still to come at the end of the way is what was to come when the loop began
abbrev pub invariant-go_on-calls : goal.invariant-go_on-calls
invariant-go_on-calls l = (after l.way (reached_run l.code l.k l.reached) ≡ after l.initial.way (reached_run l.code l.initial.k l.initial.reached))
    × (Eased (within l.initial.way.layers (reached_rest l.code l.initial.k l.initial.reached)) (within l.way.layers (reached_rest l.code l.k l.reached))
    × ((l.way.calls + reached_calls l.reached ≤ l.left)
    × ((max l.way.level (reached_level l.reached) ≤ l.levels)
    × (l.k ≤ l.initial.k))))

abbrev pub decreases-go_on-calls : goal.decreases-go_on-calls
decreases-go_on-calls l = l.k

-- what the items from here on give behind those before them is what the chain was to give; and they weigh no more
abbrev pub invariant-reach_cons-items : goal.invariant-reach_cons-items
invariant-reach_cons-items l =
    let all = cons_term (op_term l.a.value) (op_term l.b.value) in
    let rest = cons_term (op_term l.item.value) (op_term l.more.value) in
    Chained (op_run l.code l.k l.scope l.past.value all (type_of l.r)) (op_run l.code l.k l.scope l.past.value rest (type_of l.r)) (op_rest l.code l.k l.scope l.past.value all (type_of l.r))
    (op_rest l.code l.k l.scope l.past.value rest (type_of l.r)) l.initial.way l.way l.initial.left l.left l.levels
    × (weight (op_term l.item.value) + weight (op_term l.more.value) ≤ weight (op_term l.a.value) + weight (op_term l.b.value))

abbrev pub decreases-reach_cons-items : goal.decreases-reach_cons-items
decreases-reach_cons-items l = weight (op_term l.more.value)

-- what the lets from here on give, with the names bound so far, is what all of them were to give; and they weigh no more
abbrev pub invariant-reach_let-lets : goal.invariant-reach_let-lets
invariant-reach_let-lets l =
    let all = let_term l.initial.x.0 (type_of l.initial.s) (op_term l.initial.a.value) (op_term l.initial.b.value) in
    let rest = let_term l.x.0 (type_of l.s) (op_term l.a.value) (op_term l.b.value) in
    let types = types_over l.lets.items (types_in l.scope) in
    let streams = streams_over l.lets.items (streams_in l.scope) in
    Nested (op_run l.code l.k l.scope l.past.value all (type_of l.r)) (run_where l.code l.k l.known.value rest types (type_of l.r) streams)
    (op_rest l.code l.k l.scope l.past.value all (type_of l.r)) (rest_where l.code l.k l.known.value rest types (type_of l.r) streams)
    l.initial.way l.way l.initial.left l.left l.levels
    × (weight (op_term l.a.value) + weight (op_term l.b.value) ≤ weight (op_term l.initial.a.value) + weight (op_term l.initial.b.value))

abbrev pub decreases-reach_let-lets : goal.decreases-reach_let-lets
decreases-reach_let-lets l = weight (op_term l.b.value)
