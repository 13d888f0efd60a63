-- Anything is dropped.
use Rattle.std.proofs.Common.{rules}
use Rattle.delta_derive.proofs.stepping.stepped.Goals as goal

pub returns-in-Drop : goal.returns-in-Drop
returns-in-Drop c = search rules
