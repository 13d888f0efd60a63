-- The function is there, its number fits, and it is told.
use Rattle.core_term.specs.CoreTerm.{core_of}
use Rattle.delta_bound.proofs.Others.{cycle_there, funs_fit}
use Rattle.delta_bound.proofs.Answered.{cycle_told}
use Rattle.delta_bound.proofs.bounding.growth.Goals as goal

pub cycle-requires-clause-there : goal.cycle-requires-clause-there
cycle-requires-clause-there c = cycle_there (core_of c.args.c.now) c.args.f c.requires.first

pub cycle-requires-clause-number : goal.cycle-requires-clause-number
cycle-requires-clause-number c = funs_fit (core_of c.args.c.now) c.requires.nodes

pub returns : goal.returns
returns c = cycle_told c.args.c.now c.args.f c.cycle.result c.requires.first c.cycle.ensures
