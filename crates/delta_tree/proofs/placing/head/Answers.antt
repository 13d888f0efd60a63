-- It stands where it is told.
use Rattle.std.proofs.Common.{rules}
use Rattle.delta_tree.proofs.placing.head.Goals as goal

pub returns : goal.returns
returns c = search rules
