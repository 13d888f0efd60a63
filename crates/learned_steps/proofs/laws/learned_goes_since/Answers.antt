use Rattle.learned_steps.proofs.LearnedGoes.{learned_goes_since}
use Rattle.learned_steps.proofs.laws.learned_goes_since.Goals as goal

pub returns : goal.returns
returns c = learned_goes_since
