-- What is left of the type of the bound name.
use Rattle.delta_step.proofs.reached.bound.Goals as goal

pub returns-clause-rest : goal.returns-clause-rest
returns-clause-rest c = c.with_level.ensures.rest _ (c.let_in_type-state.ensures _ (rw c.deref-2.ensures at c.left-ty.ensures))
