use Rattle.commands.proofs.OneFeed.{each_order_gives_it}
use Rattle.commands.proofs.laws.each_order_gives_it.Goals as goal

pub returns : goal.returns
returns c = each_order_gives_it
