-- What is made of the parts that were read.
use Rattle.std.proofs.Common.{refl}
use Rattle.delta_parse.proofs.InTurn.{was, answered, stops}
use Rattle.delta_parse.proofs.forms_done.sum_arms_done.Goals as goal

pub returns-in-Ok : goal.returns-in-Ok
returns-in-Ok c o n h = answered _ (was c.in-Ok.is h) refl refl

pub returns-in-Err : goal.returns-in-Err
returns-in-Err c o n h = stops _ (was c.in-Err.is h)
