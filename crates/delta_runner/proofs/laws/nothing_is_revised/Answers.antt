use Rattle.delta_runner.proofs.KeptSpeaking.{nothing_is_revised}
use Rattle.delta_runner.proofs.laws.nothing_is_revised.Goals as goal

pub returns : goal.returns
returns c = nothing_is_revised
