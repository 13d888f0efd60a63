use Rattle.std.proofs.Common.{[]}
use Rattle.core_term.specs.CoreTerm.{core_of}
use Rattle.delta_session.specs.Programs.{IsRunning, course_of}
use Rattle.tests_of_sessions.proofs.Kept.{if_ok, kept}
use Rattle.tests_of_sessions.proofs.talking.open.Goals as goal

pub returns : goal.returns
returns g c =
    if_ok c.open.result c.open.ensures.stands (λ r. kept (IsRunning g.M.Machine.seen g.M.Machine.stands) r.0 (course_of (core_of c.args.checked.now) _) [])
