-- What is held stays as it is.
use Rattle.std.proofs.Common.{rules}
use Rattle.machine_kept.proofs.waking.wake_entry.Goals as goal

pub returns-in-Ok : goal.returns-in-Ok
returns-in-Ok c = search rules
