-- The name is neither of the two.
use Rattle.std.proofs.Common.{rules}
use Rattle.template_state.proofs.Putting.{apart_names}
use Rattle.template_state.proofs.put_in.apart.Goals as goal

pub returns-then-x-y : goal.returns-then-x-y
returns-then-x-y c = search (rules, apart_names)
