-- What was made where one stands is what was asked for.
use Rattle.delta_code.proofs.Leading.{lead_given, lead_refused}
use Rattle.delta_code.proofs.parts_done.given.Goals as goal

pub returns-in-Ok : goal.returns-in-Ok
returns-in-Ok c code k w x s n l run rest calls level = lead_given c.in-Ok.a code k w x s n l (rw c.in-Ok.is at run) (rw c.in-Ok.is at rest) (rw c.in-Ok.is at calls) (rw c.in-Ok.is at level)

pub returns-in-Err : goal.returns-in-Err
returns-in-Err c code k w x s n l run rest calls level = lead_refused code k w w x s n l
