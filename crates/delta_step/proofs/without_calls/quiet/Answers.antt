-- No call is made.
use Rattle.std.proofs.Common.{rules}
use Rattle.delta_step.proofs.without_calls.quiet.Goals as goal

pub returns-clause-run : goal.returns-clause-run
returns-clause-run c = search rules
