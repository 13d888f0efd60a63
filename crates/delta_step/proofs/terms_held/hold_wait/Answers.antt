-- What is held is what was taken.
use Rattle.delta_step.proofs.terms_held.hold_wait.Goals as goal

pub returns-clause-rest : goal.returns-clause-rest
returns-clause-rest c = c.subject_waits.ensures.rest _ _ c.held_by-held.ensures c.later.ensures
