use Rattle.delta_runner.proofs.KeptSpeaking.{spoken_is_meant}
use Rattle.delta_runner.proofs.laws.spoken_is_meant.Goals as goal

pub returns : goal.returns
returns c = spoken_is_meant
