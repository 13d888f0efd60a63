-- What is read in turn.
use Rattle.std.proofs.Common.{refl}
use Rattle.delta_parse.proofs.InTurn.{then, answered, stops}
use Rattle.delta_parse.proofs.declaration_reader.read_fun_name.Goals as goal

pub returns-in-Err : goal.returns-in-Err
returns-in-Err c = stops _ c.in-Err.ensures

pub returns-in-Err-expect : goal.returns-in-Err-expect
returns-in-Err-expect c = then _ c.in-Ok.ensures (stops _ c.in-Err-expect.ensures)

pub returns-in-Ok-expect : goal.returns-in-Ok-expect
returns-in-Ok-expect c = then _ c.in-Ok.ensures (answered _ c.in-Ok-expect.ensures refl refl)
