-- The items of a star stand in a row.
use Rattle.std.proofs.Common.{◌∙◌, ap₂}
use Rattle.stream_prefix.specs.Tree.{star_of}
use Rattle.stream_prefix.proofs.Rows.{prefix_of-star}
use Rattle.state_shapes.proofs.filling_values.star_with.Goals as goal

pub returns-in-Ok : goal.returns-in-Ok
returns-in-Ok c ps q h k = prefix_of-star c.in-Ok.items c.in-Ok.end ∙ ap₂ star_of (rw c.in-Ok.ensures.0 at h) (rw c.in-Ok.ensures.1 at k)
