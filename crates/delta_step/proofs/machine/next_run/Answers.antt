-- The budget is told only where it was spent.
use Rattle.std.proofs.Common.{rules}
use Rattle.delta_step.proofs.machine.next_run.Goals as goal

pub returns-clause-costly : goal.returns-clause-costly
returns-clause-costly c = search rules
