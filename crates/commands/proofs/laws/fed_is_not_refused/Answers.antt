use Rattle.commands.proofs.OneFeed.{fed_is_not_refused}
use Rattle.commands.proofs.laws.fed_is_not_refused.Goals as goal

pub returns : goal.returns
returns c = fed_is_not_refused
