-- What was made is what was asked for.
use Rattle.delta_code.proofs.GoingOn.{went, lacks}
use Rattle.delta_code.proofs.states_done.made.Goals as goal

pub returns-in-Ok : goal.returns-in-Ok
returns-in-Ok c x s v n l run rest calls level = went c.in-Ok.a x s v n l (rw c.in-Ok.is at run) (rw c.in-Ok.is at rest) (rw c.in-Ok.is at calls) (rw c.in-Ok.is at level)

pub returns-in-Err : goal.returns-in-Err
returns-in-Err c x s v n l run rest calls level = lacks
