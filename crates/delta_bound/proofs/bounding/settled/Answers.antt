-- The number is the bound, if it is one.
use Rattle.delta_bound.proofs.Answered.{counted_number, counted_large}
use Rattle.delta_bound.proofs.bounding.settled.Goals as goal

pub returns-clause-bound : goal.returns-clause-bound
returns-clause-bound c = counted_number c.args.c.now c.args.numbers.now c.main_number.result c.requires.settled c.requires.numbers c.main_number.ensures.bound

pub returns-clause-refused : goal.returns-clause-refused
returns-clause-refused c = counted_large c.args.c.now c.args.numbers.now c.main_number.result c.requires.settled c.requires.numbers c.main_number.ensures.large
