-- The mark, and both parts.
use Rattle.std.proofs.Common.{rules}
use Rattle.stations.proofs.awaiting.in_turn.Goals as goal

pub returns-in-Ok : goal.returns-in-Ok
returns-in-Ok c = search rules
