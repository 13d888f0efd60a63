-- No version is told where the letters are others, or the version is the known one.
use Rattle.std.proofs.Common.{rules}
use Rattle.delta_keep.proofs.reading.other_version.Goals as goal

pub returns-in_default-2-clause-none : goal.returns-in_default-2-clause-none
returns-in_default-2-clause-none c = search rules
