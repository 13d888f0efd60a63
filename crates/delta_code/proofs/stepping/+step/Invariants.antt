-- What is left to go through.
use Rattle.std.proofs.Common.{◌+◌}
use Rattle.machine_parts.specs.Heft.{heft, heft_of_all}
use Rattle.template_state.specs.Readers.{state_in, arguments_in}
use Rattle.delta_code.proofs.stepping.+step.Given as goal

abbrev pub decreases-step_state : goal.decreases-step_state
decreases-step_state l = heft (state_in l.s.now)

abbrev pub decreases-step_both : goal.decreases-step_both
decreases-step_both l = 1 + (heft (state_in l.a.now) + heft (state_in l.b.now))

abbrev pub decreases-step_in_turn : goal.decreases-step_in_turn
decreases-step_in_turn l = 1 + heft (state_in l.a.now)

abbrev pub decreases-step_let : goal.decreases-step_let
decreases-step_let l = 1 + (heft (state_in l.a.now) + heft (state_in l.b.now))

abbrev pub decreases-step_pair : goal.decreases-step_pair
decreases-step_pair l = 1 + heft (state_in l.a.now)

abbrev pub decreases-step_row : goal.decreases-step_row
decreases-step_row l = 1 + heft (state_in l.a.now)

abbrev pub decreases-step_frame : goal.decreases-step_frame
decreases-step_frame l = 2 + (heft_of_all (arguments_in l.args.now) + heft (state_in l.a.now))

abbrev pub decreases-step_on_name : goal.decreases-step_on_name
decreases-step_on_name l = 1 + heft (state_in l.a.now)

abbrev pub decreases-step_on_all : goal.decreases-step_on_all
decreases-step_on_all l = 1 + (heft_of_all (arguments_in l.args.now) + heft (state_in l.a.now))

abbrev pub decreases-step_arguments : goal.decreases-step_arguments
decreases-step_arguments l = heft_of_all (arguments_in l.args.now)
