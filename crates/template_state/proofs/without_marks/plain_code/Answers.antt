-- The code keeps its depth.
use Rattle.std.proofs.Common.{rules}
use Rattle.template_state.proofs.without_marks.plain_code.Goals as goal

pub returns-in-Ok : goal.returns-in-Ok
returns-in-Ok c = search rules
