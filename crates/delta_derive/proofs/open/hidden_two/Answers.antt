-- First one name is hidden, and then the other.
use Rattle.delta_derive.proofs.open.hidden_two.Goals as goal

pub returns-in-Ok : goal.returns-in-Ok
returns-in-Ok c = rw (c.deref.ensures.value, c.in-Ok.ensures) at c.hidden-both.ensures
