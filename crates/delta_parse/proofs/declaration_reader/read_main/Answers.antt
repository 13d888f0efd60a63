-- What is read in turn.
use Rattle.delta_parse.specs.Terminals.{plains}
use Rattle.delta_parse.proofs.InTurn.{reads_is, then, stops}
use Rattle.delta_parse.proofs.FlatDeclarations as flat
use Rattle.delta_parse.proofs.declaration_reader.read_main.Goals as goal

pub returns-in-Err : goal.returns-in-Err
returns-in-Err c = reads_is (flat.main_flat (plains c.args.tokens.now)) (stops _ c.in-Err.ensures)

pub returns-in-Ok : goal.returns-in-Ok
returns-in-Ok c = reads_is (flat.main_flat (plains c.args.tokens.now)) (then _ c.in-Ok.ensures (rw c.new.ensures.items at c.read_headed.ensures))
