-- There is an item.
use Rattle.kept_check.proofs.HeldFacts.{begun}
use Rattle.kept_check.proofs.holding.has_begun.Goals as goal

pub returns-in_default : goal.returns-in_default
returns-in_default c = begun c.args.items.now c.args.end.now c.in_default.len_at_least
