-- Where nothing is left of the text and of the claims no line is at fault.
use Rattle.std.proofs.Common.{arith}
use Rattle.delta_derive.proofs.Ending.{end_fine}
use Rattle.delta_derive.proofs.checking.finish.Goals as goal

pub returns-then-is_empty-clause-none : goal.returns-then-is_empty-clause-none
returns-then-is_empty-clause-none c = grind (arith, end_fine)
