-- A whole input gives a whole output.
use Rattle.delta_elab.proofs.Accepting.{accepted_is_whole}
use Rattle.delta_elab.proofs.laws.accepted_is_whole.Goals as goal

pub returns : goal.returns
returns c = accepted_is_whole
