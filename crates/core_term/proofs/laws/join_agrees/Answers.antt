-- Two environments of which the second comes after the first agree together.
use Rattle.core_term.proofs.Taking.{join_agrees}
use Rattle.core_term.proofs.laws.join_agrees.Goals as goal

pub returns : goal.returns
returns c = join_agrees
