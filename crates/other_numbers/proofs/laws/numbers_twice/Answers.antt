use Rattle.other_numbers.proofs.TwiceNumbers.{numbers_twice}
use Rattle.other_numbers.proofs.laws.numbers_twice.Goals as goal

pub returns : goal.returns
returns c = numbers_twice
