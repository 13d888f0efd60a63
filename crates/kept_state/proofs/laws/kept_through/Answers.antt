use Rattle.kept_state.proofs.KeptAgain.{kept_through}
use Rattle.kept_state.proofs.laws.kept_through.Goals as goal

pub returns : goal.returns
returns c = kept_through
