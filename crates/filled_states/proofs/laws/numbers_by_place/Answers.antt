use Rattle.filled_states.proofs.Found.{numbers_by_place}
use Rattle.filled_states.proofs.laws.numbers_by_place.Goals as goal

pub returns : goal.returns
returns c = numbers_by_place
