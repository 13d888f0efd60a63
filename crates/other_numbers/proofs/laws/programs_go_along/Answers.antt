use Rattle.other_numbers.proofs.OtherNumbers.{programs_go_along}
use Rattle.other_numbers.proofs.laws.programs_go_along.Goals as goal

pub returns : goal.returns
returns c = programs_go_along
