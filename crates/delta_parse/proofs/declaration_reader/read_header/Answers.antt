-- What is read in turn.
use Rattle.std.proofs.Common.{refl}
use Rattle.delta_tree.specs.Tree.{context_of, type_tree_of}
use Rattle.delta_parse.proofs.InTurn.{then, answered, stops, before_reads}
use Rattle.delta_parse.proofs.declaration_reader.read_header.Goals as goal

pub returns-in-Err : goal.returns-in-Err
returns-in-Err c = stops _ (before_reads context_of c.in-Err.ensures c.read_bracketed.ensures)

pub returns-in-Err-followed_by : goal.returns-in-Err-followed_by
returns-in-Err-followed_by c = then _ (before_reads context_of c.in-Ok.ensures c.read_bracketed.ensures) (stops _ (before_reads type_tree_of c.in-Err-followed_by.ensures c.read_sum.ensures))

pub returns-in-Ok-followed_by : goal.returns-in-Ok-followed_by
returns-in-Ok-followed_by c = then _ (before_reads context_of c.in-Ok.ensures c.read_bracketed.ensures) (answered _ (before_reads type_tree_of c.in-Ok-followed_by.ensures c.read_sum.ensures) refl refl)
