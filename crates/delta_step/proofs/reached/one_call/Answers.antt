-- A call is one call more.
use Rattle.std.proofs.Common.{rules}
use Rattle.delta_step.proofs.reached.one_call.Goals as goal

pub returns-clause-run : goal.returns-clause-run
returns-clause-run c = search rules
