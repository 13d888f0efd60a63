-- What runs see of a star is what is asked.
use Rattle.stream_prefix.specs.Tree.{prefix_of}
use Rattle.machine_parts.specs.Parts.{taken_prefix}
use Rattle.state_asks.proofs.AskedForms.{star_asked_same}
use Rattle.state_asks.proofs.sides.items_of.Goals as goal

pub returns : goal.returns
returns c = λ a b. star_asked_same (prefix_of c.args.p.now) (taken_prefix c.star_taken.result) c.star_taken.ensures.run a b
