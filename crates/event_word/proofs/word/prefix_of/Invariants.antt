use Rattle.std.proofs.Common.{◌≡◌, drop}
use Rattle.stream_type.specs.StreamType.{type_of}
use Rattle.stream_prefix.specs.StreamPrefix.{der}
use Rattle.stream_prefix.specs.Tree.{prefix_of}
use Rattle.event_word.proofs.Coming.{Comes}
use Rattle.event_word.proofs.word.prefix_of.Given as goal

abbrev pub invariant-loop-x : goal.invariant-loop-x
invariant-loop-x l = record {
  comes : Comes (type_of l.t) (prefix_of l.came) (drop l.x-index l.word) l.word;
  is_left : type_of l.left ≡ der (prefix_of l.came) (type_of l.t);
}
