-- What is made of the parts that were read.
use Rattle.delta_parse.proofs.InTurn.{was, then, made, stops}
use Rattle.delta_parse.proofs.forms_done.typed_head_done.Goals as goal

pub returns-in-Ok-read_type_between : goal.returns-in-Ok-read_type_between
returns-in-Ok-read_type_between c o n h = then _ (was c.in-Ok.is h) (made _ c.in-Ok-read_type_between.ensures c.whole_head.ensures)

pub returns-in-Err-read_type_between : goal.returns-in-Err-read_type_between
returns-in-Err-read_type_between c o n h = then _ (was c.in-Ok.is h) (stops _ c.in-Err-read_type_between.ensures)

pub returns-in-Err : goal.returns-in-Err
returns-in-Err c o n h = stops _ (was c.in-Err.is h)
