-- A session that stands is open, and so can be fed.
use Rattle.std.proofs.Common.{inl, []}
use Rattle.core_term.specs.CoreTerm.{core_of}
use Rattle.delta_session.specs.Programs.{course_of}
use Rattle.tests_of_sessions.proofs.sessions.opened.Goals as goal

pub returns-in-Ok : goal.returns-in-Ok
returns-in-Ok g c = inl (record { course = course_of (core_of c.args.checked.now) c.args.budget; word = []; standing = c.in-Ok.ensures.stands })
