-- By induction on the bunch.
use Rattle.bunch.proofs.Bunches.{stands_before-between}
use Rattle.bunch.proofs.laws.before_is_transitive.Goals as goal

pub returns : goal.returns
returns c = stands_before-between
