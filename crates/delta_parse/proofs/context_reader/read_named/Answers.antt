-- A name and its type.
use Rattle.std.proofs.Common.{refl}
use Rattle.delta_parse.specs.Terminals.{plain_of, plains}
use Rattle.delta_parse.proofs.InTurn.{reads_is, then, answered, stops, before_reads}
use Rattle.delta_parse.proofs.FlatContexts as flat
use Rattle.delta_parse.proofs.context_reader.read_named.Goals as goal

pub returns-in-Err : goal.returns-in-Err
returns-in-Err c = reads_is (flat.entry_flat (plains c.args.tokens.now)) (stops _ (before_reads plain_of c.in-Err.ensures c.expect.ensures))

pub returns-in-Err-read_sum : goal.returns-in-Err-read_sum
returns-in-Err-read_sum c = reads_is (flat.entry_flat (plains c.args.tokens.now)) (then _ (before_reads plain_of c.in-Ok.ensures c.expect.ensures) (stops _ c.in-Err-read_sum.ensures))

pub returns-in-Ok-read_sum : goal.returns-in-Ok-read_sum
returns-in-Ok-read_sum c = reads_is (flat.entry_flat (plains c.args.tokens.now)) (then _ (before_reads plain_of c.in-Ok.ensures c.expect.ensures) (answered _ c.in-Ok-read_sum.ensures refl refl))
