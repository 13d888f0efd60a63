-- What stands behind the first of two names.
use Rattle.std.proofs.Common.{ap, refl, sym}
use Rattle.grammar.specs.Reading.{got}
use Rattle.delta_parse.specs.Terminals.{plain_of, plains}
use Rattle.delta_parse.proofs.InTurn.{token_read, answered, stops, before_reads, stuck_at}
use Rattle.delta_parse.proofs.FlatPatterns as flat
use Rattle.delta_parse.proofs.pattern_reader.read_second.Goals as goal

pub returns-in-Ok : goal.returns-in-Ok
returns-in-Ok c = token_read c.in-Some.ensures.shorter (flat.second_read _ _ _ _ c.in-Some.ensures.some c.in-Some.ensures.kind) (answered _ (before_reads plain_of c.in-Ok.ensures c.expect.ensures) (ap (λ x. got x (plains c.in-Ok.rest.now)) (sym c.pattern_with.ensures)) refl)

pub returns-in-Err : goal.returns-in-Err
returns-in-Err c = token_read c.in-Some.ensures.shorter (flat.second_read _ _ _ _ c.in-Some.ensures.some c.in-Some.ensures.kind) (stops _ (before_reads plain_of c.in-Err.ensures c.expect.ensures))

pub returns-in-None : goal.returns-in-None
returns-in-None c = stuck_at c.args.tokens.now (flat.second_stuck _ _ c.in-None.ensures.none)
