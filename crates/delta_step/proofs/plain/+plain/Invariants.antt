-- What is left to go through.
use Rattle.delta_step.specs.Marked.{state_in, arguments_from}
use Rattle.machine_parts.specs.Heft.{heft, heft_of_all}
use Rattle.delta_step.proofs.plain.+plain.Given as goal

abbrev pub decreases-plain : goal.decreases-plain
decreases-plain l = heft (state_in l.s.now)

abbrev pub decreases-plain_all : goal.decreases-plain_all
decreases-plain_all l = heft_of_all (arguments_from l.args.now)
