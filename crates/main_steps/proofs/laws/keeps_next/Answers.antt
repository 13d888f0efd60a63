use Rattle.main_steps.proofs.Keeping.{kept_next}
use Rattle.main_steps.proofs.laws.keeps_next.Goals as goal

pub returns : goal.returns
returns c = kept_next
