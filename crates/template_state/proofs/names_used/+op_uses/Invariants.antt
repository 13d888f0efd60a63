-- Each call goes down, or is nearer to one that does.
use Rattle.std.proofs.Common.{◌+◌, ◌*◌, max}
use Rattle.template_state.specs.declared.code.Op.{size-Op}
use Rattle.template_state.specs.declared.code.Operands.{size-Operands}
use Rattle.template_state.proofs.names_used.+op_uses.Given as goal

abbrev pub decreases-op_uses : goal.decreases-op_uses
decreases-op_uses l = 2 * size-Op l.op.now

abbrev pub decreases-op_either : goal.decreases-op_either
decreases-op_either l = max (2 * size-Op l.a.now) (2 * size-Op l.b.now) + 1

abbrev pub decreases-op_let : goal.decreases-op_let
decreases-op_let l = max (2 * size-Op l.a.now) (2 * size-Op l.b.now) + 1

abbrev pub decreases-op_parts : goal.decreases-op_parts
decreases-op_parts l = 2 * size-Op l.a.now + 1

abbrev pub decreases-op_sum : goal.decreases-op_sum
decreases-op_sum l = max (2 * size-Op l.a.now) (2 * size-Op l.b.now) + 1

abbrev pub decreases-op_star : goal.decreases-op_star
decreases-op_star l = max (2 * size-Op l.a.now) (2 * size-Op l.b.now) + 1

abbrev pub decreases-op_wait : goal.decreases-op_wait
decreases-op_wait l = 2 * size-Op l.a.now + 1

abbrev pub decreases-operands_use : goal.decreases-operands_use
decreases-operands_use l = 2 * size-Operands l.es.now
