-- What was made is what was asked for.
use Rattle.delta_code.proofs.Giving.{gave, refused}
use Rattle.delta_code.proofs.parts_done.made.Goals as goal

pub returns-in-Ok : goal.returns-in-Ok
returns-in-Ok c x s n l run rest calls level = gave c.in-Ok.a x s n l (rw c.in-Ok.is at run) (rw c.in-Ok.is at rest) (rw c.in-Ok.is at calls) (rw c.in-Ok.is at level)

pub returns-in-Err : goal.returns-in-Err
returns-in-Err c x s n l run rest calls level = refused x s n l
