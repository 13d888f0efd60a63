use Rattle.filled_states.proofs.FilledStates.{events_filled_after}
use Rattle.filled_states.proofs.laws.events_filled_after.Goals as goal

pub returns : goal.returns
returns c = events_filled_after
