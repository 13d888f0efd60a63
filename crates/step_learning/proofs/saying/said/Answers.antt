-- Events of the type have 63 steps at most.
use Rattle.step_learning.proofs.saying.said.Goals as goal

pub canon-requires-clause-reach : goal.canon-requires-clause-reach
canon-requires-clause-reach c = c.is_within.ensures c.if-not-is_within.false
