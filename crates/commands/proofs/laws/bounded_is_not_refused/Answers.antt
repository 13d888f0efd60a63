use Rattle.commands.proofs.OneBound.{bounded_is_not_unbounded}
use Rattle.commands.proofs.laws.bounded_is_not_refused.Goals as goal

pub returns : goal.returns
returns c = bounded_is_not_unbounded
