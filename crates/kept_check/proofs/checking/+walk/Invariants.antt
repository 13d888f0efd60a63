-- Each call has fewer states left, or is nearer to one that has.
use Rattle.std.proofs.Common.{◌+◌, ◌*◌}
use Rattle.delta_keep.specs.KeptView.{state_of, arguments_from}
use Rattle.kept_check.specs.Sizes.{states_of_parts, states_in_arguments, states_number}
use Rattle.kept_check.proofs.checking.+walk.Given as goal

abbrev pub decreases-check_state : goal.decreases-check_state
decreases-check_state l = 6 * states_number (state_of l.s.now)

abbrev pub decreases-check_parts : goal.decreases-check_parts
decreases-check_parts l = 6 * states_of_parts (state_of l.s.now) + 5

abbrev pub decreases-check_two : goal.decreases-check_two
decreases-check_two l = 6 * (states_number (state_of l.a.now) + states_number (state_of l.b.now)) + 1

abbrev pub decreases-check_let : goal.decreases-check_let
decreases-check_let l = 6 * (states_number (state_of l.a.now) + states_number (state_of l.b.now)) + 2

abbrev pub decreases-check_frame : goal.decreases-check_frame
decreases-check_frame l = 6 * (states_in_arguments (arguments_from l.args.now) + states_number (state_of l.s.now)) + 2

abbrev pub decreases-check_arguments : goal.decreases-check_arguments
decreases-check_arguments l = 6 * states_in_arguments (arguments_from l.args.now) + 1

abbrev pub decreases-check_sides : goal.decreases-check_sides
decreases-check_sides l = 6 * states_number (state_of l.a.now) + 1

abbrev pub decreases-check_steps : goal.decreases-check_steps
decreases-check_steps l = 6 * states_number (state_of l.a.now) + 1

abbrev pub decreases-check_body : goal.decreases-check_body
decreases-check_body l = 6 * states_number (state_of l.s.now) + 1
