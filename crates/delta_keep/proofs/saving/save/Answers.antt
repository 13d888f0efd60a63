-- Bytes are refused just where they are too many, and their number is told.
use Rattle.std.proofs.Common.{rules}
use Rattle.delta_keep.proofs.saving.save.Goals as goal

pub returns-in-Ok-clause-large : goal.returns-in-Ok-clause-large
returns-in-Ok-clause-large c = search rules
