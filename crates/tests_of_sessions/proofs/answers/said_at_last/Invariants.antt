-- The session stays one that can be fed.
use Rattle.delta_session.specs.Standing.{IsKept}
use Rattle.tests_of_sessions.proofs.answers.said_at_last.Given as goal

abbrev pub invariant-loop-line : goal.invariant-loop-line
invariant-loop-line g l = IsKept g.A.Answers.stands l.session
