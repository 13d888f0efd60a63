-- The number that was found.
use Rattle.std.proofs.Common.{rules}
use Rattle.learned_table.proofs.answering.with_found.Goals as goal

pub returns-in-Int : goal.returns-in-Int
returns-in-Int c = search rules
