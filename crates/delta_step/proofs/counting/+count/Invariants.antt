-- What is left to go through.
use Rattle.delta_step.specs.Marked.{state_in, arguments_from}
use Rattle.machine_parts.specs.Heft.{heft, heft_of_all}
use Rattle.delta_step.proofs.counting.+count.Given as goal

abbrev pub decreases-count_states : goal.decreases-count_states
decreases-count_states l = heft (state_in l.s.now)

abbrev pub decreases-count_all : goal.decreases-count_all
decreases-count_all l = heft_of_all (arguments_from l.arguments.now)
