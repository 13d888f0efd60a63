-- A part that stands one deeper may have one level less.
use Rattle.std.proofs.Common.{rules}
use Rattle.machine_parts.proofs.levels.inside.Goals as goal

pub returns-else-levels-eq0 : goal.returns-else-levels-eq0
returns-else-levels-eq0 c = search rules
