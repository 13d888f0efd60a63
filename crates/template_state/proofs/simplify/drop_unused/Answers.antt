-- The name isn't used.
use Rattle.std.proofs.Common.{rules}
use Rattle.template_state.proofs.Settling.{settling}
use Rattle.template_state.proofs.simplify.drop_unused.Goals as goal

pub returns-then-not-uses : goal.returns-then-not-uses
returns-then-not-uses c = search (rules, settling)
