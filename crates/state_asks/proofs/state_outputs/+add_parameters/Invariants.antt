-- The arguments get fewer.
use Rattle.machine_parts.specs.Heft.{heft_of_all}
use Rattle.template_state.specs.Readers.{arguments_in}
use Rattle.state_asks.proofs.state_outputs.+add_parameters.Given as goal

abbrev pub decreases-add_parameters : goal.decreases-add_parameters
decreases-add_parameters l = heft_of_all (arguments_in l.args.now)
