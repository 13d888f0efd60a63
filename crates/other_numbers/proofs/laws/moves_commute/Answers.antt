use Rattle.other_numbers.proofs.MovedNumbers.{moves_commute}
use Rattle.other_numbers.proofs.laws.moves_commute.Goals as goal

pub returns : goal.returns
returns c = moves_commute
