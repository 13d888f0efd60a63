use Rattle.std.proofs.Common.{◌≡◌, ◌≤◌, ◌++◌, drop, map}
use Rattle.stream_prefix.specs.StreamPrefix.{star_emp}
use Rattle.stream_prefix.specs.Tree.{prefix_of, star_of}
use Rattle.event_word.specs.Canon.{canon}
use Rattle.event_word.specs.Steps.{steps_of}
use Rattle.event_word.proofs.canonical.+canon.Given as goal

abbrev pub invariant-spelled_items-loop-item : goal.invariant-spelled_items-loop-item
invariant-spelled_items-loop-item l = record {
  spelled : l.word.items ++ canon (star_of (map prefix_of (drop l.item-index l.items)) star_emp) ≡ canon (star_of (map prefix_of l.items) star_emp);
  within : steps_of (star_of (map prefix_of (drop l.item-index l.items)) star_emp) ≤ 63;
}
