-- By induction on the bunch.
use Rattle.bunch.proofs.Bunches.{stands_before-same}
use Rattle.bunch.proofs.laws.before_is_irreflexive.Goals as goal

pub returns : goal.returns
returns c = stands_before-same
