-- The copies so far are equal to the items seen so far.
use Rattle.std.proofs.Common.{◌≡◌, take, map}
use Rattle.stream_prefix.specs.Tree.{prefix_of}
use Rattle.machine_parts.proofs.parts.items_copied.Given as goal

abbrev pub invariant-loop-item : goal.invariant-loop-item
invariant-loop-item l = map prefix_of l.copies.items ≡ map prefix_of (take l.item-index l.items)
