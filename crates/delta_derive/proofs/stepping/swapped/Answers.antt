-- The sides of a comma change places.
use Rattle.std.proofs.Common.{rules}
use Rattle.delta_derive.proofs.stepping.swapped.Goals as goal

pub returns-in-Comma : goal.returns-in-Comma
returns-in-Comma c = search rules
