use Rattle.std.proofs.Common.{take}
use Rattle.delta_load.specs.Load.{load}
use Rattle.delta_load.proofs.OnTheLoad.{Goes}
use Rattle.delta_load.proofs.running.feed_load.Given as goal

abbrev pub invariant-loop-i : goal.invariant-loop-i
invariant-loop-i g l = Goes g.A.Answers.stands l.fn.session l.fn.first l.session l.totals (take l.i (load l.start l.items))
