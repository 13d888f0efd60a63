-- What is left to go through.
use Rattle.std.proofs.Common.{◌+◌}
use Rattle.machine_parts.specs.Heft.{heft, heft_of_all}
use Rattle.template_state.specs.Readers.{state_in, arguments_in}
use Rattle.state_asks.proofs.states.+asks.Given as goal

abbrev pub decreases-add_asks_of_state : goal.decreases-add_asks_of_state
decreases-add_asks_of_state l = heft (state_in l.s.now)

abbrev pub decreases-add_both : goal.decreases-add_both
decreases-add_both l = 1 + (heft (state_in l.a.now) + heft (state_in l.b.now))

abbrev pub decreases-add_in_turn : goal.decreases-add_in_turn
decreases-add_in_turn l = 1 + heft (state_in l.a.now)

abbrev pub decreases-add_let : goal.decreases-add_let
decreases-add_let l = 1 + (heft (state_in l.a.now) + heft (state_in l.b.now))

abbrev pub decreases-add_pair : goal.decreases-add_pair
decreases-add_pair l = 1 + heft (state_in l.a.now)

abbrev pub decreases-add_row : goal.decreases-add_row
decreases-add_row l = 1 + heft (state_in l.a.now)

abbrev pub decreases-add_frame : goal.decreases-add_frame
decreases-add_frame l = 2 + (heft_of_all (arguments_in l.args.now) + heft (state_in l.a.now))

abbrev pub decreases-add_arguments : goal.decreases-add_arguments
decreases-add_arguments l = heft_of_all (arguments_in l.args.now)
