-- The list gets shorter.
use Rattle.std.proofs.Common.{length}
use Rattle.state_asks.proofs.ask.+add_each.Given as goal

abbrev pub decreases-add_each : goal.decreases-add_each
decreases-add_each l = length l.ms.now
