use Rattle.delta_state.proofs.SettledStates.{settled_gives_nothing}
use Rattle.delta_state.proofs.laws.settled_gives_nothing.Goals as goal

pub returns : goal.returns
returns c = settled_gives_nothing
