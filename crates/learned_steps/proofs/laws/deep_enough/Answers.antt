use Rattle.learned_steps.proofs.DeepEnough.{deep_enough}
use Rattle.learned_steps.proofs.laws.deep_enough.Goals as goal

pub returns : goal.returns
returns c = deep_enough
