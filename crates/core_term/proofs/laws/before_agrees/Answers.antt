-- Agreement with one more fact.
use Rattle.core_term.proofs.Placing.{before_agrees}
use Rattle.core_term.proofs.laws.before_agrees.Goals as goal

pub returns : goal.returns
returns c = before_agrees
