use Rattle.delta_run.proofs.JoinedStates.{due_joins}
use Rattle.delta_run.proofs.laws.due_joins.Goals as goal

pub returns : goal.returns
returns c = due_joins
