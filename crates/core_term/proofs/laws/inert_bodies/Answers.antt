-- The body of an inert function is inert.
use Rattle.core_term.proofs.InertFunctions.{inert_bodies}
use Rattle.core_term.proofs.laws.inert_bodies.Goals as goal

pub returns : goal.returns
returns c = inert_bodies
