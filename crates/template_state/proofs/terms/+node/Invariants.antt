-- Each call goes down, or is nearer to one that does.
use Rattle.std.proofs.Common.{◌+◌, ◌*◌, max}
use Rattle.template_state.specs.declared.code.Op.{size-Op}
use Rattle.template_state.specs.declared.code.Operands.{size-Operands}
use Rattle.template_state.proofs.terms.+node.Given as goal

abbrev pub decreases-node : goal.decreases-node
decreases-node l = 2 * size-Op l.op.now

abbrev pub decreases-both : goal.decreases-both
decreases-both l = max (2 * size-Op l.a.now) (2 * size-Op l.b.now) + 1

abbrev pub decreases-nodes : goal.decreases-nodes
decreases-nodes l = 2 * size-Operands l.es.now
