-- What is left of an environment that agrees agrees.
use Rattle.core_term.proofs.Taking.{rest_agrees}
use Rattle.core_term.proofs.laws.rest_agrees.Goals as goal

pub returns : goal.returns
returns c = rest_agrees
