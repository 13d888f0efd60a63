use Rattle.commands.proofs.OneBound.{bounds_are_one}
use Rattle.commands.proofs.laws.bound_is_one.Goals as goal

pub returns : goal.returns
returns c = bounds_are_one
