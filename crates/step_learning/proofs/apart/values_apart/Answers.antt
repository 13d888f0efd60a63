-- There are as many as were asked for, and they are far apart.
use Rattle.std.proofs.Common.{◌≡◌, ◌∙◌, ◌++◌, [], ap}
use Rattle.filled_states.specs.Shifts.{spread_from}
use Rattle.step_learning.proofs.SpreadDepths.{spread_count, spread_apart}
use Rattle.step_learning.proofs.apart.values_apart.Goals as goal

pub returns-clause-count : goal.returns-clause-count
returns-clause-count c =
    let there : c.add_spread.new.depths.items ≡ [] ++ spread_from 1000000 2305843009213693952 c.args.count = c.in_ok-add_spread.ensures ∙ ap (λ xs. xs ++ spread_from 1000000 2305843009213693952 c.args.count) c.new-depths.ensures.items in
    spread_count c.args.count c.requires c.add_spread.new.depths.items there

pub returns-clause-apart : goal.returns-clause-apart
returns-clause-apart c =
    let there : c.add_spread.new.depths.items ≡ [] ++ spread_from 1000000 2305843009213693952 c.args.count = c.in_ok-add_spread.ensures ∙ ap (λ xs. xs ++ spread_from 1000000 2305843009213693952 c.args.count) c.new-depths.ensures.items in
    spread_apart c.args.count c.requires c.add_spread.new.depths.items there
