-- What is made of the parts that were read.
use Rattle.delta_parse.proofs.InTurn.{made, stops}
use Rattle.delta_parse.proofs.forms_done.typed_done.Goals as goal

pub returns-in-Ok : goal.returns-in-Ok
returns-in-Ok c = made _ c.in-Ok.ensures c.whole.ensures

pub returns-in-Err : goal.returns-in-Err
returns-in-Err c = stops _ c.in-Err.ensures
