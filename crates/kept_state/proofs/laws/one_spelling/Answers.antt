use Rattle.kept_state.proofs.SameStates.{one_spelling}
use Rattle.kept_state.proofs.laws.one_spelling.Goals as goal

pub returns : goal.returns
returns c = one_spelling
