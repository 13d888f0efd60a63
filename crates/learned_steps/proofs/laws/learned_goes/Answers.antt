use Rattle.learned_steps.proofs.LearnedGoes.{learned_goes}
use Rattle.learned_steps.proofs.laws.learned_goes.Goals as goal

pub returns : goal.returns
returns c = learned_goes
