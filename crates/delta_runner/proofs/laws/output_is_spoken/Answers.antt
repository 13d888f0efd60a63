use Rattle.delta_runner.proofs.KeptSpeaking.{output_is_spoken}
use Rattle.delta_runner.proofs.laws.output_is_spoken.Goals as goal

pub returns : goal.returns
returns c = output_is_spoken
