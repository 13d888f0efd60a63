use Rattle.kept_rules.proofs.GoodStates.{untyped_is_not_typed}
use Rattle.kept_rules.proofs.laws.untyped_is_not_typed.Goals as goal

pub returns : goal.returns
returns c = untyped_is_not_typed
