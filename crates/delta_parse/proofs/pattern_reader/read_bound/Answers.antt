-- What is bound.
use Rattle.delta_parse.specs.Terminals.{plains}
use Rattle.delta_parse.proofs.InTurn.{reads_is, then, stops, at_once}
use Rattle.delta_parse.proofs.FlatPatterns as flat
use Rattle.delta_parse.proofs.pattern_reader.read_bound.Goals as goal

pub returns-in-Some : goal.returns-in-Some
returns-in-Some c = at_once c.in-Some.ensures.shorter (flat.pattern_named _ _ _ c.in-Some.ensures.some c.in-Some.ensures.kind)

pub returns-in-Err : goal.returns-in-Err
returns-in-Err c = reads_is (flat.pattern_flat (plains c.args.tokens.now) c.in_default.ensures.none) (stops _ c.in-Err.ensures)

pub returns-in-Err-expect : goal.returns-in-Err-expect
returns-in-Err-expect c = reads_is (flat.pattern_flat (plains c.args.tokens.now) c.in_default.ensures.none) (then _ c.in-Ok.ensures (stops _ c.in-Err-expect.ensures))

pub returns-in-Ok-expect : goal.returns-in-Ok-expect
returns-in-Ok-expect c = reads_is (flat.pattern_flat (plains c.args.tokens.now) c.in_default.ensures.none) (then _ c.in-Ok.ensures (then _ c.in-Ok-expect.ensures c.read_second.ensures))
