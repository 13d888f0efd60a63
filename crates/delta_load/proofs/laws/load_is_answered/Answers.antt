use Rattle.delta_load.proofs.Loads.{load_is_answered}
use Rattle.delta_load.proofs.laws.load_is_answered.Goals as goal

pub returns : goal.returns
returns c = load_is_answered
