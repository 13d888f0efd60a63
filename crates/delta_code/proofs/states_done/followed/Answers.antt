-- What was made of two in turn is what was asked for.
use Rattle.delta_code.proofs.GoingOn.{lacks_as}
use Rattle.delta_code.proofs.states_done.followed.Goals as goal

pub returns-in-Ok : goal.returns-in-Ok
returns-in-Ok c x s v n l run rest calls level =
    record { run = rw c.in-Ok.is at run; rest = rw c.in-Ok.is at rest; counted = rw c.in-Ok.is at calls; shallow = rw c.in-Ok.is at level; spent = tt; deep = tt }

pub returns-in-Err : goal.returns-in-Err
returns-in-Err c x s v n l run rest calls level = lacks_as
