-- What stands behind a wait weighs less.
use Rattle.std.proofs.Common.{◌+◌, ◌*◌}
use Rattle.machine_parts.specs.Weights.{weight}
use Rattle.template_state.specs.Readers.{op_term}
use Rattle.delta_code.proofs.inward.+waited.Given as goal

abbrev pub decreases-waited : goal.decreases-waited
decreases-waited l = 2 * weight (op_term l.n.now.value)

abbrev pub decreases-waited_for : goal.decreases-waited_for
decreases-waited_for l = 2 * weight (op_term l.a.now.value) + 1
