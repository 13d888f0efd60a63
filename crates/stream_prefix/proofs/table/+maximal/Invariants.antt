-- The items seen so far are maximal, so the rest decides.
use Rattle.std.proofs.Common.{◌≡◌, drop, map}
use Rattle.stream_prefix.specs.StreamPrefix.{is_maximal, star_done}
use Rattle.stream_prefix.specs.Tree.{prefix_of, star_of}
use Rattle.stream_prefix.proofs.table.+maximal.Given as goal

abbrev pub invariant-all_maximal-loop-item : goal.invariant-all_maximal-loop-item
invariant-all_maximal-loop-item l =
    is_maximal (star_of (map prefix_of l.items) star_done) ≡ is_maximal (star_of (map prefix_of (drop l.item-index l.items)) star_done)
