-- The second goes on exactly where the first is whole.
use Rattle.std.proofs.Common.{rules}
use Rattle.delta_step.proofs.in_turn.goes_on.Goals as goal

pub returns : goal.returns
returns c = search rules
