-- Where no claim is left the line is too much.
use Rattle.std.proofs.Common.{rules}
use Rattle.delta_derive.proofs.goals.take_line.Goals as goal

pub returns-in-None-clause-on : goal.returns-in-None-clause-on
returns-in-None-clause-on c = search rules
