use Rattle.delta_runner.proofs.KeptSpeaking.{order_does_not_matter}
use Rattle.delta_runner.proofs.laws.order_does_not_matter.Goals as goal

pub returns : goal.returns
returns c = order_does_not_matter
