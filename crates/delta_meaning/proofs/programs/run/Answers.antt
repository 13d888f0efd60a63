-- Where a run is given or memory is refused, no budget is said to be spent.
use Rattle.delta_meaning.proofs.programs.run.Goals as goal

pub returns-in-Ok-clause-budget : goal.returns-in-Ok-clause-budget
returns-in-Ok-clause-budget c =
    tt

pub returns-in-Err-Memory-clause-budget : goal.returns-in-Err-Memory-clause-budget
returns-in-Err-Memory-clause-budget c =
    λ n q. cc
