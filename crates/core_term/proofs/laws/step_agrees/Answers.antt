-- A step after what is whole already agrees.
use Rattle.core_term.proofs.Taking.{step_agrees}
use Rattle.core_term.proofs.laws.step_agrees.Goals as goal

pub returns : goal.returns
returns c = step_agrees
