use Rattle.other_numbers.proofs.OtherNumbers.{runs_go_along}
use Rattle.other_numbers.proofs.laws.runs_go_along.Goals as goal

pub returns : goal.returns
returns c = runs_go_along
