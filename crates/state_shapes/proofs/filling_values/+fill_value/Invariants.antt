-- The values so far are those of the items seen so far.
use Rattle.std.proofs.Common.{◌≡◌, take, map}
use Rattle.hist_value.specs.HistValue.{hist_value_of}
use Rattle.filled_states.specs.Filled.{filled_value}
use Rattle.state_shapes.proofs.filling_values.+fill_value.Given as goal

abbrev pub invariant-fill_items-loop-item : goal.invariant-fill_items-loop-item
invariant-fill_items-loop-item l = map hist_value_of l.filled.items ≡ map (filled_value l.keys l.numbers) (map hist_value_of (take l.item-index l.items))
