use Rattle.kept_state.proofs.SpelledStates.{all_spelled}
use Rattle.kept_state.proofs.laws.all_spelled.Goals as goal

pub returns : goal.returns
returns c = all_spelled
