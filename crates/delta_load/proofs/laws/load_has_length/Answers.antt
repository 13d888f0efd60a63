use Rattle.delta_load.proofs.Places.{length-load}
use Rattle.delta_load.proofs.laws.load_has_length.Goals as goal

pub returns : goal.returns
returns c = λ start items. length-load start 0 items
