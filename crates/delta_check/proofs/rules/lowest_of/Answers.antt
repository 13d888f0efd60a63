-- What is told of the second is told of its value.
use Rattle.delta_check.proofs.rules.lowest_of.Goals as goal

pub returns-in-Ok : goal.returns-in-Ok
returns-in-Ok c = λ p q h k. c.lowest.ensures p q h (rw c.in-Ok.is at k)
