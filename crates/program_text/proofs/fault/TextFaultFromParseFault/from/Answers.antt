-- The place is the grammar's.
use Rattle.std.proofs.Common.{rules}
use Rattle.program_text.proofs.fault.TextFaultFromParseFault.from.Goals as goal

pub returns-in-NoMain : goal.returns-in-NoMain
returns-in-NoMain c = search rules
