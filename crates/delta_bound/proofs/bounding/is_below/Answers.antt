-- The limit of the code is that of the bounds.
use Rattle.std.proofs.Common.{rules}
use Rattle.delta_bound.proofs.bounding.is_below.Goals as goal

pub returns : goal.returns
returns c = search rules
