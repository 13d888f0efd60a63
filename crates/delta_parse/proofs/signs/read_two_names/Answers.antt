-- What is read in turn.
use Rattle.std.proofs.Common.{refl}
use Rattle.delta_parse.specs.Terminals.{plain_of}
use Rattle.delta_parse.proofs.InTurn.{then, answered, stops, before_reads}
use Rattle.delta_parse.proofs.signs.read_two_names.Goals as goal

pub returns-in-Err : goal.returns-in-Err
returns-in-Err c = stops _ (before_reads plain_of c.in-Err.ensures c.expect.ensures)

pub returns-in-Err-followed_by : goal.returns-in-Err-followed_by
returns-in-Err-followed_by c = then _ (before_reads plain_of c.in-Ok.ensures c.expect.ensures) (stops _ (before_reads plain_of c.in-Err-followed_by.ensures c.expect-in-Ok.ensures))

pub returns-in-Ok-followed_by : goal.returns-in-Ok-followed_by
returns-in-Ok-followed_by c = then _ (before_reads plain_of c.in-Ok.ensures c.expect.ensures) (answered _ (before_reads plain_of c.in-Ok-followed_by.ensures c.expect-in-Ok.ensures) refl refl)
