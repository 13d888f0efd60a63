use Rattle.main_steps.proofs.Keeping.{kept_first}
use Rattle.main_steps.proofs.laws.keeps_first.Goals as goal

pub returns : goal.returns
returns c = kept_first
