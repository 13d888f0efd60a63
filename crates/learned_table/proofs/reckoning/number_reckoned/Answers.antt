-- What was no number is none now.
use Rattle.state_shapes.specs.RegisterLists.{lists_in}
use Rattle.state_shapes.proofs.Growing.{says_no, longer_still}
use Rattle.learned_table.proofs.reckoning.number_reckoned.Goals as goal

pub returns-in_default : goal.returns-in_default
returns-in_default c = says_no (longer_still (lists_in c.args.found.now))
