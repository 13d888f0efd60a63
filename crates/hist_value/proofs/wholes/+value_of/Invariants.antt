-- The values so far are those of the items seen so far.
use Rattle.std.proofs.Common.{◌≡◌, take, map}
use Rattle.stream_prefix.specs.Tree.{prefix_of}
use Rattle.hist_value.specs.HistValue.{hist_value_of}
use Rattle.hist_value.specs.Wholes.{value_of}
use Rattle.hist_value.proofs.wholes.+value_of.Given as goal

abbrev pub invariant-values_of-loop-item : goal.invariant-values_of-loop-item
invariant-values_of-loop-item l = map hist_value_of l.values.items ≡ map value_of (map prefix_of (take l.item-index l.items))
