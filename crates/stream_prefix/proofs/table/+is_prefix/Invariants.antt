-- The items seen so far are whole, so the rest decides.
use Rattle.std.proofs.Common.{◌↔◌, drop, map}
use Rattle.stream_type.specs.StreamType.{type_of, star}
use Rattle.stream_prefix.specs.StreamPrefix.{star_done, IsPrefix}
use Rattle.stream_prefix.specs.Tree.{prefix_of, star_of}
use Rattle.stream_prefix.proofs.table.+is_prefix.Given as goal

abbrev pub invariant-all_whole-loop-item : goal.invariant-all_whole-loop-item
invariant-all_whole-loop-item l =
    IsPrefix (star (type_of l.s)) (star_of (map prefix_of l.items) star_done) ↔ IsPrefix (star (type_of l.s)) (star_of (map prefix_of (drop l.item-index l.items)) star_done)
