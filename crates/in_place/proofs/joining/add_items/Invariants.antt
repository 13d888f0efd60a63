-- The items so far stand behind those that were there.
use Rattle.std.proofs.Common.{◌≡◌, ◌++◌, take, map}
use Rattle.stream_prefix.specs.Tree.{prefix_of}
use Rattle.in_place.proofs.joining.add_items.Given as goal

abbrev pub invariant-loop-item : goal.invariant-loop-item
invariant-loop-item l = map prefix_of l.items.items ≡ map prefix_of l.initial.items.items ++ map prefix_of (take l.item-index l.more)
