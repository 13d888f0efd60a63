use Rattle.state_rewriting.proofs.SimplerStates.{simpler_stands_after}
use Rattle.state_rewriting.proofs.laws.simpler_stands_after.Goals as goal

pub returns : goal.returns
returns c = simpler_stands_after
