use Rattle.delta_load.proofs.Words.{is_whole}
use Rattle.delta_load.proofs.laws.load_is_whole.Goals as goal

pub returns : goal.returns
returns c = λ start items. is_whole start 0 items
