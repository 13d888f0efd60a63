use Rattle.other_numbers.proofs.OtherNumbers.{rests_go_along}
use Rattle.other_numbers.proofs.laws.rests_go_along.Goals as goal

pub returns : goal.returns
returns c = rests_go_along
