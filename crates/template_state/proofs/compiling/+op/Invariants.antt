-- The templates so far are those of the nodes seen so far. Each call goes down, or is nearer to one that does.
use Rattle.std.proofs.Common.{◌≡◌, ◌+◌, ◌*◌, max, take, map}
use Rattle.core_term.specs.declared.term.Node.{size-Node}
use Rattle.core_term.specs.CoreTerm.{term_of}
use Rattle.template_state.specs.Readers.{shared_term}
use Rattle.template_state.proofs.compiling.+op.Given as goal

abbrev pub invariant-ops-loop-node : goal.invariant-ops-loop-node
invariant-ops-loop-node l = map shared_term l.made.items ≡ map term_of (take l.node-index l.nodes)

abbrev pub decreases-op : goal.decreases-op
decreases-op l = 2 * size-Node l.n.now

abbrev pub decreases-both : goal.decreases-both
decreases-both l = max (2 * size-Node l.a.now) (2 * size-Node l.b.now) + 1

abbrev pub decreases-ops : goal.decreases-ops
decreases-ops l = 2 * goal.size-ops l + 1
