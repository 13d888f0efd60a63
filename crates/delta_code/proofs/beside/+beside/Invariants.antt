-- What is left to go through.
use Rattle.std.proofs.Common.{◌+◌}
use Rattle.machine_parts.specs.Heft.{heft}
use Rattle.template_state.specs.Readers.{state_in}
use Rattle.delta_code.proofs.beside.+beside.Given as goal

abbrev pub decreases-step_beside : goal.decreases-step_beside
decreases-step_beside l = heft (state_in l.state.now)

abbrev pub decreases-step_sides : goal.decreases-step_sides
decreases-step_sides l = 1 + (heft (state_in l.a.now) + heft (state_in l.b.now))
