-- More input gives more.
use Rattle.delta_elab.proofs.Accepting.{accepted_grows}
use Rattle.delta_elab.proofs.laws.accepted_grows.Goals as goal

pub returns : goal.returns
returns c = accepted_grows
