use Rattle.other_numbers.proofs.TwiceNumbers.{numbers_stay}
use Rattle.other_numbers.proofs.laws.numbers_stay.Goals as goal

pub returns : goal.returns
returns c = numbers_stay
