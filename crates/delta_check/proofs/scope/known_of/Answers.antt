-- The next name's facts are those that the free names say.
use Rattle.std.proofs.Common.{rules}
use Rattle.delta_check.proofs.Known.{knowns}
use Rattle.delta_check.proofs.scope.known_of.Goals as goal

pub loop-name-preserved : goal.loop-name-preserved
loop-name-preserved c = search (rules, knowns)
