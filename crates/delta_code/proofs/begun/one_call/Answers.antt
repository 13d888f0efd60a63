-- A call is one call more.
use Rattle.std.proofs.Common.{rules}
use Rattle.delta_code.proofs.begun.one_call.Goals as goal

pub returns-clause-run : goal.returns-clause-run
returns-clause-run c = search rules
