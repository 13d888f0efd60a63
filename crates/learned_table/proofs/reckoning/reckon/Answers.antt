-- A test of two numbers.
use Rattle.std.proofs.Common.{rules}
use Rattle.learned_table.proofs.reckoning.reckon.Goals as goal

pub returns-in-Less : goal.returns-in-Less
returns-in-Less c = search rules
