-- The mark moves on over what came.
use Rattle.std.proofs.Common.{rules}
use Rattle.delta_code.proofs.lent.give_back.Goals as goal

pub returns : goal.returns
returns c = search rules
