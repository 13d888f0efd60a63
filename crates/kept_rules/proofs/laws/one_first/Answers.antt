use Rattle.kept_rules.proofs.GoodStates.{one_first}
use Rattle.kept_rules.proofs.laws.one_first.Goals as goal

pub returns : goal.returns
returns c = one_first
