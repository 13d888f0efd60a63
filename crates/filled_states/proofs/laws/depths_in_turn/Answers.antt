use Rattle.filled_states.proofs.Found.{depths_in_turn}
use Rattle.filled_states.proofs.laws.depths_in_turn.Goals as goal

pub returns : goal.returns
returns c = depths_in_turn
