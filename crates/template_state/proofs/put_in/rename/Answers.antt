-- The argument was y.
use Rattle.std.proofs.Common.{rules}
use Rattle.template_state.proofs.Putting.{putting}
use Rattle.template_state.proofs.put_in.rename.Goals as goal

pub returns-then-x-y : goal.returns-then-x-y
returns-then-x-y c = search (rules, putting)
