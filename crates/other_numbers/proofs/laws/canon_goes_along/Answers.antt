use Rattle.other_numbers.proofs.EventNumbers.{canon_goes_along}
use Rattle.other_numbers.proofs.laws.canon_goes_along.Goals as goal

pub returns : goal.returns
returns c = canon_goes_along
