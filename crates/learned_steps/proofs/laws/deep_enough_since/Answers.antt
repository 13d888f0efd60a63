use Rattle.learned_steps.proofs.DeepEnough.{deep_enough_since}
use Rattle.learned_steps.proofs.laws.deep_enough_since.Goals as goal

pub returns : goal.returns
returns c = deep_enough_since
