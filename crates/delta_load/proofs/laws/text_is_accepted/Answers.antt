use Rattle.delta_load.proofs.Accepting.{text_is_accepted}
use Rattle.delta_load.proofs.laws.text_is_accepted.Goals as goal

pub returns : goal.returns
returns c = text_is_accepted
