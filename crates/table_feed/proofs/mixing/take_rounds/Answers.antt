-- A round, and what is still to come.
use Rattle.std.proofs.Common.{◌≡◌, ◌-◌, ◌+◌, suc, map, length, ◌∙◌, arith}
use Rattle.table_feed.proofs.Placing.{idle_round, round_more}
use Rattle.table_feed.proofs.mixing.take_rounds.Goals as goal

pub returns-then-len-before-clause-events : goal.returns-then-len-before-clause-events
returns-then-len-before-clause-events c =
    let came = c.in_ok-take_round.ensures in
    let same : length c.take_round.new.mixed.items ≡ length c.loop-round.mixed.items = omega (arith, c.len.ensures, c.len-before.ensures, c.if-len-before.true) in
    idle_round c.loop-round.mixed.items c.take_round.new.mixed.items c.args.schedule.now (map (λ w. w.now) c.loop-round.left.items) (map (λ w. w.now) c.take_round.new.left.items) (c.args.most - c.loop-round.round) came.events same came.left
    ∙ c.loop-round.invariant.events

pub loop-round-preserved : goal.loop-round-preserved
loop-round-preserved c =
    let came = c.in_ok-take_round.ensures in
    let one : c.args.most - c.loop-round.round ≡ suc (c.args.most - (c.loop-round.round + 1)) = omega (arith, c.loop-round-test.true) in
    record {
      events = round_more c.loop-round.mixed.items c.take_round.new.mixed.items c.args.schedule.now (map (λ w. w.now) c.loop-round.left.items) (map (λ w. w.now) c.take_round.new.left.items) (c.args.most - c.loop-round.round) (c.args.most - (c.loop-round.round + 1)) one came.events came.left
          ∙ c.loop-round.invariant.events;
      room = came.room;
      len = came.len ∙ c.loop-round.invariant.len;
    }
