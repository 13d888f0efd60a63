use Rattle.other_numbers.proofs.EventNumbers.{admitted_go_along}
use Rattle.other_numbers.proofs.laws.admitted_go_along.Goals as goal

pub returns : goal.returns
returns c = admitted_go_along
