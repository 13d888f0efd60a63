-- A letter more, or what is no letter.
use Rattle.delta_derive.proofs.Turns.{no_turn, turn_more}
use Rattle.delta_derive.proofs.reading.turns_in.Goals as goal

pub returns-in-None : goal.returns-in-None
returns-in-None c = no_turn c.args.bytes.now c.loop-byte.byte-index c.loop-byte.turns.items c.loop-byte-test.true c.in-None.ensures c.loop-byte.invariant

pub loop-byte-preserved : goal.loop-byte-preserved
loop-byte-preserved c =
    turn_more c.args.bytes.now c.loop-byte.byte-index c.loop-byte.turns.items c.push.new.self.items c.in-Some.turn c.loop-byte-test.true c.in-Some.ensures c.in_ok-push-in-Some.ensures.items c.loop-byte.invariant
