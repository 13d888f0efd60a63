use Rattle.filled_states.proofs.Found.{depths_by_place}
use Rattle.filled_states.proofs.laws.depths_by_place.Goals as goal

pub returns : goal.returns
returns c = depths_by_place
