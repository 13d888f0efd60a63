-- The code keeps its depth.
use Rattle.std.proofs.Common.{rules}
use Rattle.machine_kept.proofs.kept_states.keep_code.Goals as goal

pub returns-in-Ok : goal.returns-in-Ok
returns-in-Ok c = search rules
