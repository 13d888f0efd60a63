-- The prefixes so far are those of the items seen so far.
use Rattle.std.proofs.Common.{◌≡◌, take, map}
use Rattle.stream_prefix.specs.Tree.{prefix_of}
use Rattle.filled_states.specs.Filled.{filled_prefix}
use Rattle.state_shapes.proofs.filling_values.+fill_prefix.Given as goal

abbrev pub invariant-fill_whole-loop-item : goal.invariant-fill_whole-loop-item
invariant-fill_whole-loop-item l = map prefix_of l.filled.items ≡ map (filled_prefix l.keys l.numbers) (map prefix_of (take l.item-index l.items))
