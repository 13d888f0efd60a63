use Rattle.kept_state.proofs.KeptAgain.{keeps_again}
use Rattle.kept_state.proofs.laws.keeps_again.Goals as goal

pub returns : goal.returns
returns c = keeps_again
