-- The name stands with the type that is left of it.
use Rattle.std.proofs.Common.{rules}
use Rattle.machine_kept.proofs.awaiting.stream.Goals as goal

pub returns : goal.returns
returns c = search rules
