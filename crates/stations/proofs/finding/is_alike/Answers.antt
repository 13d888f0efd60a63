-- Each of the three is the same.
use Rattle.std.proofs.Common.{rules}
use Rattle.stations.proofs.finding.is_alike.Goals as goal

pub returns-then-same-2 : goal.returns-then-same-2
returns-then-same-2 c = search rules
