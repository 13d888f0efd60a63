-- Where no name without a size is counted, the rest decides.
use Rattle.delta_bound.proofs.Answered.{sized_bound, sized_refusal}
use Rattle.delta_bound.proofs.bounding.sized.Goals as goal

pub returns-clause-bound : goal.returns-clause-bound
returns-clause-bound c = sized_bound c.args.c.now c.counted.result c.requires.sized c.counted.ensures.bound

pub returns-clause-refused : goal.returns-clause-refused
returns-clause-refused c = sized_refusal c.args.c.now c.counted.result c.requires.typed c.requires.sized c.counted.ensures.refused
