-- There are some already.
use Rattle.std.proofs.Common.{rules}
use Rattle.stations.proofs.LiesOn.{some_there}
use Rattle.stations.proofs.laying.some_beside.Goals as goal

pub returns-then-not-is_empty : goal.returns-then-not-is_empty
returns-then-not-is_empty g c = some_there _ _ (search rules)
