-- What runs see of a sum is what is asked.
use Rattle.stream_prefix.specs.Tree.{prefix_of}
use Rattle.machine_parts.specs.Parts.{sided_prefix}
use Rattle.state_asks.proofs.AskedForms.{sum_asked_same}
use Rattle.state_asks.proofs.sides.side_of.Goals as goal

pub returns : goal.returns
returns c = λ a b. sum_asked_same (prefix_of c.args.p.now) (sided_prefix c.side_taken.result) c.side_taken.ensures.run a b
