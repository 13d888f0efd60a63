use Rattle.filled_states.proofs.FilledStates.{prefixes_filled_after}
use Rattle.filled_states.proofs.laws.prefixes_filled_after.Goals as goal

pub returns : goal.returns
returns c = prefixes_filled_after
