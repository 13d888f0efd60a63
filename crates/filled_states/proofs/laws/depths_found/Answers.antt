use Rattle.filled_states.proofs.Found.{depths_found}
use Rattle.filled_states.proofs.laws.depths_found.Goals as goal

pub returns : goal.returns
returns c = depths_found
