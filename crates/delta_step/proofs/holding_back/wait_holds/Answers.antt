-- What is held is what was.
use Rattle.std.proofs.Common.{refl}
use Rattle.delta_step.proofs.holding_back.wait_holds.Goals as goal

pub returns-clause-rest : goal.returns-clause-rest
returns-clause-rest c = c.subject_waits.ensures.rest _ _ refl c.copy_code.ensures
