-- What is read in turn.
use Rattle.delta_tree.specs.Tree.{type_tree_of}
use Rattle.delta_parse.proofs.InTurn.{read_so, then, stops, before_reads}
use Rattle.delta_parse.proofs.forms_done.read_type_between.Goals as goal

pub returns-in-Err : goal.returns-in-Err
returns-in-Err c = stops _ c.in-Err.ensures

pub returns-in-Ok : goal.returns-in-Ok
returns-in-Ok c = then _ c.in-Ok.ensures (before_reads type_tree_of c.followed_by.ensures (read_so c.read_type.ensures.given c.read_type.ensures.shorter))
