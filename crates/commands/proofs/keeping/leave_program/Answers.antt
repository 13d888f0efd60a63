-- The bytes are those of the program that ran.
use Rattle.commands.proofs.Leaving.{is_well, tells_program}
use Rattle.commands.proofs.keeping.leave_program.Goals as goal

pub returns-in-Done-clause-left : goal.returns-in-Done-clause-left
returns-in-Done-clause-left g c P d old new left0 left1 of to =
    c.leave.ensures.left _
    (tells_program g.M.Machine.seen g.M.Machine.stands c.args.runner.now P d old new left0 left1 c.args.end c.bytes_of.result c.bytes_of.ensures.bytes c.bytes_of.ensures.large of to (is_well c.args.end c.in-Done.is))
