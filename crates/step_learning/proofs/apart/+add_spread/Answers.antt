-- The first stands in front of the others.
use Rattle.std.proofs.lemmas.Result.{on_ok_weaker}
use Rattle.step_learning.proofs.SpreadDepths.{spread_behind}
use Rattle.step_learning.proofs.apart.+add_spread.Goals as goal

pub returns : goal.returns
returns t c =
    on_ok_weaker c.add_spread.result
    (spread_behind c.args.depths.now.items c.push.new.self.items c.add_spread.new.depths.items c.args.first c.args.count c.if-count-eq0.false c.in_ok-push.ensures.items)
    c.add_spread.ensures
