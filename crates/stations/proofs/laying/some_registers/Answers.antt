-- There are some of each.
use Rattle.std.proofs.Common.{rules}
use Rattle.stations.proofs.LiesOn.{some_more}
use Rattle.stations.proofs.laying.some_registers.Goals as goal

pub returns-in_ok-some_beside-in-Ok-true-2 : goal.returns-in_ok-some_beside-in-Ok-true-2
returns-in_ok-some_beside-in-Ok-true-2 c =
    λ e. some_more c.args.before _ _ (search rules) c.in_ok-some_beside-in-Ok-true.ensures c.in_ok-some_beside-in-Ok-true-2.ensures
