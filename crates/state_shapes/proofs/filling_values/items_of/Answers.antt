-- The items of a list stand in a row.
use Rattle.std.proofs.Common.{◌∙◌, ap}
use Rattle.hist_value.specs.HistValue.{list_of}
use Rattle.hist_value.proofs.Rows.{hist_value_of-list}
use Rattle.state_shapes.proofs.filling_values.items_of.Goals as goal

pub returns-in-Ok : goal.returns-in-Ok
returns-in-Ok c vs h = hist_value_of-list c.in-Ok.items ∙ ap list_of (rw c.in-Ok.is at h)
