-- How much stands there without brackets.
use Rattle.std.proofs.Common.{rules}
use Rattle.delta_print.proofs.hist_rows.room.Goals as goal

pub returns-in-Comparison : goal.returns-in-Comparison
returns-in-Comparison c = search rules
