-- What is left to go through.
use Rattle.delta_step.specs.Marked.{state_in, arguments_from}
use Rattle.machine_parts.specs.Heft.{heft, heft_of_all}
use Rattle.delta_step.proofs.counting.+held.Given as goal

abbrev pub decreases-held_events : goal.decreases-held_events
decreases-held_events l = heft (state_in l.s.now)

abbrev pub decreases-held_by_all : goal.decreases-held_by_all
decreases-held_by_all l = heft_of_all (arguments_from l.arguments.now)
