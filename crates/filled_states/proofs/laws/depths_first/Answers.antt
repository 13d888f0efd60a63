use Rattle.filled_states.proofs.Found.{depths_first}
use Rattle.filled_states.proofs.laws.depths_first.Goals as goal

pub returns : goal.returns
returns c = depths_first
