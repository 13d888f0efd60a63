use Rattle.kept_rules.proofs.GoodStates.{typed_is_good}
use Rattle.kept_rules.proofs.laws.typed_is_good.Goals as goal

pub returns : goal.returns
returns c = typed_is_good
