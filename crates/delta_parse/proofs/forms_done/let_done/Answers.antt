-- What is made of the parts that were read.
use Rattle.delta_parse.proofs.InTurn.{was, made, stops}
use Rattle.delta_parse.proofs.forms_done.let_done.Goals as goal

pub returns-in-Ok : goal.returns-in-Ok
returns-in-Ok c o n h = made _ (was c.in-Ok.is h) (rw c.let_form.ensures at c.whole.ensures)

pub returns-in-Err : goal.returns-in-Err
returns-in-Err c o n h = stops _ (was c.in-Err.is h)
