-- What is made of the parts that were read.
use Rattle.std.proofs.Common.{refl}
use Rattle.delta_parse.proofs.InTurn.{was, made, at_once, stops}
use Rattle.delta_parse.proofs.forms_done.wait_done.Goals as goal

pub returns-in-Ok-waiting : goal.returns-in-Ok-waiting
returns-in-Ok-waiting c o n h = made _ (was c.in-Ok.is h) (λ m l. at_once l (rw c.in-Ok-waiting.ensures refl))

pub returns-in-Err : goal.returns-in-Err
returns-in-Err c o n h = stops _ (was c.in-Err.is h)
