-- What is read in turn.
use Rattle.std.proofs.Common.{refl}
use Rattle.delta_parse.specs.Terminals.{plains}
use Rattle.delta_parse.proofs.InTurn.{reads_is, made, then, answered, stops}
use Rattle.delta_parse.proofs.FlatDeclarations as flat
use Rattle.delta_parse.proofs.declaration_reader.read_function.Goals as goal

pub returns-in-Err : goal.returns-in-Err
returns-in-Err c = reads_is (flat.function_flat (plains c.args.tokens.now)) (stops _ c.in-Err.ensures)

pub returns-in-Err-read_past : goal.returns-in-Err-read_past
returns-in-Err-read_past c = reads_is (flat.function_flat (plains c.args.tokens.now)) (made _ c.in-Ok.ensures (λ m l. stops _ (c.in-Err-read_past.ensures m l)))

pub returns-in-Err-read_headed : goal.returns-in-Err-read_headed
returns-in-Err-read_headed c = reads_is (flat.function_flat (plains c.args.tokens.now)) (made _ c.in-Ok.ensures (λ m l. then _ (c.in-Ok-read_past.ensures m l) (stops _ c.in-Err-read_headed.ensures)))

pub returns-in-Ok-read_headed : goal.returns-in-Ok-read_headed
returns-in-Ok-read_headed c = reads_is (flat.function_flat (plains c.args.tokens.now)) (made _ c.in-Ok.ensures (λ m l. then _ (c.in-Ok-read_past.ensures m l) (answered _ c.in-Ok-read_headed.ensures refl refl)))
