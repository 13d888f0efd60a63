-- What is read in turn.
use Rattle.std.proofs.Common.{refl}
use Rattle.delta_parse.specs.Terminals.{plains}
use Rattle.delta_parse.proofs.InTurn.{reads_is, then, answered, stops}
use Rattle.delta_parse.proofs.FlatDeclarations as flat
use Rattle.delta_parse.proofs.declaration_reader.read_alias.Goals as goal

pub returns-in-Err : goal.returns-in-Err
returns-in-Err c = reads_is (flat.alias_flat (plains c.args.tokens.now)) (stops _ c.in-Err.ensures)

pub returns-in-Err-read_sum : goal.returns-in-Err-read_sum
returns-in-Err-read_sum c = reads_is (flat.alias_flat (plains c.args.tokens.now)) (then _ c.in-Ok.ensures (stops _ c.in-Err-read_sum.ensures))

pub returns-in-Ok-read_sum : goal.returns-in-Ok-read_sum
returns-in-Ok-read_sum c = reads_is (flat.alias_flat (plains c.args.tokens.now)) (then _ c.in-Ok.ensures (answered _ c.in-Ok-read_sum.ensures refl refl))
