-- The session stays one that can be fed.
use Rattle.delta_session.specs.Standing.{IsKept}
use Rattle.tests_of_sessions.proofs.sizes.feed_often.Given as goal

abbrev pub invariant-loop-i : goal.invariant-loop-i
invariant-loop-i g l = IsKept g.A.Answers.stands l.session
