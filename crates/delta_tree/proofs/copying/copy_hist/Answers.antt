-- It stands where it is told.
use Rattle.std.proofs.Common.{rules}
use Rattle.delta_tree.proofs.copying.copy_hist.Goals as goal

pub returns : goal.returns
returns c = search rules
