-- What is read in turn.
use Rattle.std.proofs.Common.{refl}
use Rattle.delta_parse.specs.Readers.{pattern_tree}
use Rattle.delta_parse.proofs.InTurn.{read_so, then, answered, stops, before_reads}
use Rattle.delta_parse.proofs.forms_done.read_let_front.Goals as goal

pub returns-in-Err : goal.returns-in-Err
returns-in-Err c = stops _ c.in-Err.ensures

pub returns-in-Err-followed_by : goal.returns-in-Err-followed_by
returns-in-Err-followed_by c = then _ c.in-Ok.ensures (stops _ (before_reads pattern_tree c.in-Err-followed_by.ensures (read_so c.read_pattern.ensures.given c.read_pattern.ensures.shorter)))

pub returns-in-Ok-followed_by : goal.returns-in-Ok-followed_by
returns-in-Ok-followed_by c = then _ c.in-Ok.ensures (answered _ (before_reads pattern_tree c.in-Ok-followed_by.ensures (read_so c.read_pattern.ensures.given c.read_pattern.ensures.shorter)) refl refl)
