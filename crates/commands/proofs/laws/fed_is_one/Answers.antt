use Rattle.commands.proofs.OneFeed.{fed_is_one}
use Rattle.commands.proofs.laws.fed_is_one.Goals as goal

pub returns : goal.returns
returns c = fed_is_one
