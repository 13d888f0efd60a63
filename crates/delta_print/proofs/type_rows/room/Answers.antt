-- How much stands there without brackets.
use Rattle.std.proofs.Common.{rules}
use Rattle.delta_print.proofs.type_rows.room.Goals as goal

pub returns-in-Star : goal.returns-in-Star
returns-in-Star c = search rules
