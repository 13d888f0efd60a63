-- The same code at the depth that is beside its own.
use Rattle.std.proofs.Common.{rules}
use Rattle.state_shapes.proofs.filling.fill_later.Goals as goal

pub returns-in-Ok : goal.returns-in-Ok
returns-in-Ok c = search rules
