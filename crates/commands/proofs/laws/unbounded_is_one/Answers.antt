use Rattle.commands.proofs.OneBound.{refusals_are_one}
use Rattle.commands.proofs.laws.unbounded_is_one.Goals as goal

pub returns : goal.returns
returns c = refusals_are_one
