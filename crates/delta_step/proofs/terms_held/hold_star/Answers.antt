-- What is held is what was taken.
use Rattle.delta_step.proofs.terms_held.hold_star.Goals as goal

pub returns-clause-rest : goal.returns-clause-rest
returns-clause-rest c = c.star_waits.ensures.rest _ _ _ c.held_by.ensures c.both_later-codes.ensures
