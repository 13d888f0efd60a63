use Rattle.std.proofs.Common.{refl}
use Rattle.delta_end.proofs.name.bound_name.Goals as goal

pub returns-in-Unbounded : goal.returns-in-Unbounded
returns-in-Unbounded c = rw c.in-Unbounded.is refl

pub returns-in-Cycle : goal.returns-in-Cycle
returns-in-Cycle c = rw c.in-Cycle.is refl

pub returns-in-Large : goal.returns-in-Large
returns-in-Large c = rw c.in-Large.is refl
