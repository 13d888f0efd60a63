-- What is made of the parts that were read.
use Rattle.std.proofs.Common.{refl}
use Rattle.delta_parse.proofs.InTurn.{was, made, at_once, stops}
use Rattle.delta_parse.proofs.types_done.joined.Goals as goal

pub returns-in-Ok-two_types : goal.returns-in-Ok-two_types
returns-in-Ok-two_types c o n h = made _ (was c.in-Ok.is h) (λ m l. at_once l (rw c.in-Ok-two_types.ensures refl))

pub returns-in-Err : goal.returns-in-Err
returns-in-Err c o n h = stops _ (was c.in-Err.is h)
