-- What is left of the type of the parameter.
use Rattle.delta_step.proofs.reached.before_others.Goals as goal

pub returns-in-Ok-clause-rests : goal.returns-in-Ok-clause-rests
returns-in-Ok-clause-rests c = rw c.in-Ok.ensures.1 at (c.state_before.ensures _ (rw c.deref-2.ensures at c.left-ty.ensures))
