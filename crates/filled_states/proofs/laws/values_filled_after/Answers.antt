use Rattle.filled_states.proofs.FilledStates.{values_filled_after}
use Rattle.filled_states.proofs.laws.values_filled_after.Goals as goal

pub returns : goal.returns
returns c = values_filled_after
