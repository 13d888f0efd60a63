-- The bytes are those of the run that went on.
use Rattle.commands.proofs.Leaving.{is_well, tells_state}
use Rattle.commands.proofs.keeping_again.leave_again.Goals as goal

pub returns-in-Done-clause-left : goal.returns-in-Done-clause-left
returns-in-Done-clause-left g c P d k old new left0 left1 from to =
    c.leave.ensures.left _
    (tells_state g.M.Machine.seen g.M.Keeping.since c.args.runner.now P d k old new left0 left1 c.args.end c.bytes_again.result c.bytes_again.ensures.bytes c.bytes_again.ensures.large from to (is_well c.args.end c.in-Done.is))
