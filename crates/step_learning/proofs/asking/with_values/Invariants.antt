-- What was learned so far is what was found so far.
use Rattle.std.proofs.Common.{take, map}
use Rattle.state_asks.specs.Asking.{asked_in}
use Rattle.step_learning.specs.AsksOf.{AsksOf}
use Rattle.step_learning.proofs.asking.with_values.Given as goal

abbrev pub invariant-loop-ask : goal.invariant-loop-ask
invariant-loop-ask l = AsksOf (map asked_in (take l.ask-index l.found)) l.learned.items
