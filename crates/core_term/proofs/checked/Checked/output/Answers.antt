-- The result's type is the output's.
use Rattle.std.proofs.Common.{rules}
use Rattle.core_term.proofs.checked.Checked.output.Goals as goal

pub returns : goal.returns
returns c = search rules
