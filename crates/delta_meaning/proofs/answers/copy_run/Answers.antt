-- Of equal parts runs are equal.
use Rattle.std.proofs.Common.{rules}
use Rattle.delta_meaning.proofs.answers.copy_run.Goals as goal

pub returns-clause-run : goal.returns-clause-run
returns-clause-run c =
    search rules

pub returns-clause-calls : goal.returns-clause-calls
returns-clause-calls c =
    search rules
