-- What is held is what was.
use Rattle.std.proofs.Common.{refl}
use Rattle.delta_step.proofs.holding_back.star_holds.Goals as goal

pub returns-clause-rest : goal.returns-clause-rest
returns-clause-rest c = c.star_waits.ensures.rest _ _ _ refl c.both_codes-codes.ensures
