-- The law is the lemma.
use Rattle.step_learning.proofs.LearnedStepGoes.{learned_step_goes_since}
use Rattle.step_learning.proofs.laws.learned_step_goes_since.Goals as goal

pub returns : goal.returns
returns c = learned_step_goes_since
