use Rattle.delta_load.proofs.Words.{is_word}
use Rattle.delta_load.proofs.laws.load_is_word.Goals as goal

pub returns : goal.returns
returns c = λ start items. is_word start 0 items
