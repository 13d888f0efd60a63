-- The whole items so far are those of the values seen so far.
use Rattle.std.proofs.Common.{◌≡◌, take, map}
use Rattle.stream_type.specs.StreamType.{type_of}
use Rattle.stream_prefix.specs.Tree.{prefix_of}
use Rattle.hist_value.specs.HistValue.{hist_value_of}
use Rattle.hist_value.specs.Wholes.{full}
use Rattle.hist_value.proofs.wholes.+full.Given as goal

abbrev pub invariant-full_items-loop-item : goal.invariant-full_items-loop-item
invariant-full_items-loop-item l = map prefix_of l.wholes.items ≡ map (full (type_of l.s)) (map hist_value_of (take l.item-index l.items))
