-- What is read in turn.
use Rattle.std.proofs.Common.{refl}
use Rattle.delta_parse.proofs.InTurn.{then, answered, stops}
use Rattle.delta_parse.proofs.declaration_reader.read_headed.Goals as goal

pub returns-in-Err : goal.returns-in-Err
returns-in-Err c = stops _ c.in-Err.ensures

pub returns-in-Err-read_expression : goal.returns-in-Err-read_expression
returns-in-Err-read_expression c = then _ c.in-Ok.ensures (stops _ c.in-Err-read_expression.ensures)

pub returns-in-Ok-read_expression : goal.returns-in-Ok-read_expression
returns-in-Ok-read_expression c = then _ c.in-Ok.ensures (answered _ c.in-Ok-read_expression.ensures refl refl)
