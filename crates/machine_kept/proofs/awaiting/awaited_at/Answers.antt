-- The whole bunch has all of the marks.
use Rattle.std.proofs.Common.{rules}
use Rattle.machine_kept.proofs.awaiting.awaited_at.Goals as goal

pub returns : goal.returns
returns c = search rules
