-- A number is found, or both are the same.
use Rattle.state_shapes.proofs.Growing.{goes_tested}
use Rattle.state_shapes.proofs.matching_values.bare_goes.Goals as goal

pub returns : goal.returns
returns c = goes_tested _ c.goes_where_same.ensures c.same_bare.ensures
