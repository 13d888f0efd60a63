-- What is read in turn.
use Rattle.delta_parse.specs.Terminals.{plains}
use Rattle.delta_parse.proofs.InTurn.{reads_is, made, stops, read_so, most}
use Rattle.delta_parse.proofs.FlatDeclarations as flat
use Rattle.delta_parse.proofs.declaration_reader.read_entry_items.Goals as goal

pub returns-in-Err : goal.returns-in-Err
returns-in-Err c = reads_is (flat.items_flat (plains c.args.tokens.now)) (stops _ c.in-Err.ensures)

pub returns-in-Ok : goal.returns-in-Ok
returns-in-Ok c = reads_is (flat.items_flat (plains c.args.tokens.now)) (made _ c.in-Ok.ensures (λ m l. read_so c.read_more_entries.ensures.given (most _ _ l c.read_more_entries.ensures.shorter)))
