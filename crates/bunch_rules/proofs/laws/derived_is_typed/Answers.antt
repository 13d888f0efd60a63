use Rattle.bunch_rules.proofs.Programs.{derived_is_typed}
use Rattle.bunch_rules.proofs.laws.derived_is_typed.Goals as goal

pub returns : goal.returns
returns c = derived_is_typed
