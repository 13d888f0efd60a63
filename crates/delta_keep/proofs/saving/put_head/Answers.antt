-- The letters and the version are put out.
use Rattle.std.proofs.Common.{rules}
use Rattle.delta_keep.proofs.saving.put_head.Goals as goal

pub returns : goal.returns
returns c = search rules
