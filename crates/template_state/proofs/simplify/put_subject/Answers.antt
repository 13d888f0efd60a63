-- The names of the pair and of its subject differ.
use Rattle.std.proofs.Common.{rules}
use Rattle.template_state.proofs.Settling.{settling}
use Rattle.template_state.proofs.simplify.put_subject.Goals as goal

pub returns-then-y-z : goal.returns-then-y-z
returns-then-y-z c = search (rules, settling)
