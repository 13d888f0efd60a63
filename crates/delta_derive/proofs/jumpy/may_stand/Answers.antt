-- What isn't inert stands first.
use Rattle.std.proofs.Common.{rules}
use Rattle.delta_derive.proofs.jumpy.may_stand.Goals as goal

pub returns-else-inert : goal.returns-else-inert
returns-else-inert c = search rules
