use Rattle.other_numbers.proofs.OtherNumbers.{simpler_goes_along}
use Rattle.other_numbers.proofs.laws.simpler_goes_along.Goals as goal

pub returns : goal.returns
returns c = simpler_goes_along
