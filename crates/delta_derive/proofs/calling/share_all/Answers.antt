-- The claims of all arguments were added where none is left.
use Rattle.std.proofs.Common.{arith}
use Rattle.delta_derive.proofs.Sharing.{left_added}
use Rattle.delta_derive.proofs.calling.share_all.Goals as goal

pub returns-in-Ok-Some : goal.returns-in-Ok-Some
returns-in-Ok-Some c = grind (arith, left_added)
