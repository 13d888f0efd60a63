-- Want of memory is no budget.
use Rattle.std.proofs.Common.{rules}
use Rattle.machine_parts.proofs.stop.refusal.Goals as goal

pub returns-in-Memory-clause-budget : goal.returns-in-Memory-clause-budget
returns-in-Memory-clause-budget c = search rules
