use Rattle.other_numbers.proofs.OtherNumbers.{asks_go_along}
use Rattle.other_numbers.proofs.laws.asks_go_along.Goals as goal

pub returns : goal.returns
returns c = asks_go_along
