-- Main's input and result are at most so high.
use Rattle.std.proofs.Common.{arith}
use Rattle.std.proofs.lemmas.Grind.{common_steps}
use Rattle.core_term.proofs.reading.fits.Goals as goal

pub returns-then-is_low_bunch : goal.returns-then-is_low_bunch
returns-then-is_low_bunch c = grind (arith, common_steps)

pub returns-else-is_low_bunch : goal.returns-else-is_low_bunch
returns-else-is_low_bunch c = grind (arith, common_steps)
