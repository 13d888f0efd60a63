-- Each part is copied.
use Rattle.std.proofs.Common.{rules}
use Rattle.core_term.proofs.copying.copy_core.Goals as goal

pub returns-clause-program : goal.returns-clause-program
returns-clause-program c = search rules
