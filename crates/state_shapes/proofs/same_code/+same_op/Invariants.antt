-- Each call goes down, or is nearer to one that does.
use Rattle.std.proofs.Common.{◌+◌, ◌*◌}
use Rattle.template_state.specs.declared.code.Op.{size-Op}
use Rattle.template_state.specs.declared.code.Operands.{size-Operands}
use Rattle.state_shapes.proofs.same_code.+same_op.Given as goal

abbrev pub decreases-same_op : goal.decreases-same_op
decreases-same_op l = 2 * size-Op l.a.now + 1

abbrev pub decreases-same_both : goal.decreases-same_both
decreases-same_both l = 2 * size-Op l.a.now

abbrev pub decreases-same_side : goal.decreases-same_side
decreases-same_side l = 2 * size-Op l.a.now

abbrev pub decreases-same_bound : goal.decreases-same_bound
decreases-same_bound l = 2 * size-Op l.a.now

abbrev pub decreases-same_parts : goal.decreases-same_parts
decreases-same_parts l = 2 * size-Op l.a.now

abbrev pub decreases-same_on_sum : goal.decreases-same_on_sum
decreases-same_on_sum l = 2 * size-Op l.a.now

abbrev pub decreases-same_on_star : goal.decreases-same_on_star
decreases-same_on_star l = 2 * size-Op l.a.now

abbrev pub decreases-same_call : goal.decreases-same_call
decreases-same_call l = 2 * size-Op l.a.now

abbrev pub decreases-same_operands : goal.decreases-same_operands
decreases-same_operands l = 2 * size-Operands l.a.now + 1
