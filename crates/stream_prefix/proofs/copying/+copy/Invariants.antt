-- The copies so far are equal to the items seen so far.
use Rattle.std.proofs.Common.{◌≡◌, take, map}
use Rattle.stream_prefix.specs.Tree.{prefix_of}
use Rattle.stream_prefix.proofs.copying.+copy.Given as goal

abbrev pub invariant-copy_items-loop-item : goal.invariant-copy_items-loop-item
invariant-copy_items-loop-item l = map prefix_of l.copies.items ≡ map prefix_of (take l.item-index l.items)
