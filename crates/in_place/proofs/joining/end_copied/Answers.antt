-- An end that has come stays come.
use Rattle.std.proofs.Common.{rules}
use Rattle.in_place.proofs.joining.end_copied.Goals as goal

pub returns-in-Done : goal.returns-in-Done
returns-in-Done c = search rules
