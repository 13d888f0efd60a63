-- It doesn't go on.
use Rattle.state_shapes.proofs.Growing.{stops}
use Rattle.state_shapes.proofs.matching.held_goes.Goals as goal

pub returns-else-goes_on : goal.returns-else-goes_on
returns-else-goes_on c = stops c.if-goes_on.ensures.1
