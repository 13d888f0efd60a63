-- What is read in turn.
use Rattle.std.proofs.Common.{refl}
use Rattle.delta_parse.specs.Terminals.{plain_of}
use Rattle.delta_parse.proofs.InTurn.{then, answered, stops, before_reads}
use Rattle.delta_parse.proofs.signs.read_name_between.Goals as goal

pub returns-in-Err : goal.returns-in-Err
returns-in-Err c = stops _ c.in-Err.ensures

pub returns-in-Err-followed_by : goal.returns-in-Err-followed_by
returns-in-Err-followed_by c = then _ c.in-Ok.ensures (stops _ (before_reads plain_of c.in-Err-followed_by.ensures c.expect-in-Ok.ensures))

pub returns-in-Ok-followed_by : goal.returns-in-Ok-followed_by
returns-in-Ok-followed_by c = then _ c.in-Ok.ensures (answered _ (before_reads plain_of c.in-Ok-followed_by.ensures c.expect-in-Ok.ensures) refl refl)
