use Rattle.delta_load.proofs.Words.{length-stream}
use Rattle.delta_load.proofs.laws.load_has_bytes.Goals as goal

pub returns : goal.returns
returns c = λ start items. length-stream start 0 items
