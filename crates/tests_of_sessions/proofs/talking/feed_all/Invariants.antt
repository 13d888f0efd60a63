use Rattle.delta_session.specs.Standing.{IsKept}
use Rattle.tests_of_sessions.proofs.talking.feed_all.Given as goal

abbrev pub invariant-loop-turn : goal.invariant-loop-turn
invariant-loop-turn g l = IsKept g.A.Answers.stands l.session
