-- The argument of the parameter that the body names takes the frame's place.
use Rattle.std.proofs.Common.{rules}
use Rattle.template_state.proofs.Joining.{joining}
use Rattle.template_state.proofs.join.give_argument.Goals as goal

pub returns-then-is_parameter : goal.returns-then-is_parameter
returns-then-is_parameter c = search (rules, joining)
