use Rattle.commands.proofs.OneFeed.{unfed_is_one}
use Rattle.commands.proofs.laws.unfed_is_one.Goals as goal

pub returns : goal.returns
returns c = unfed_is_one
