use Rattle.delta_bound.proofs.HeldAtMost.{answers_hold}
use Rattle.delta_bound.proofs.laws.answers_hold.Goals as goal

pub returns : goal.returns
returns c = answers_hold
