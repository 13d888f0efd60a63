-- The count so far is that of the items seen so far.
use Rattle.std.proofs.Common.{◌≡◌, take, map, length}
use Rattle.stream_prefix.specs.StreamPrefix.{star_emp}
use Rattle.stream_prefix.specs.Tree.{prefix_of, star_of}
use Rattle.event_word.specs.Canon.{canon}
use Rattle.delta_state.specs.PlainState.{capped}
use Rattle.delta_state.proofs.counting.+word_len.Given as goal

abbrev pub invariant-items_len-loop-item : goal.invariant-items_len-loop-item
invariant-items_len-loop-item l = l.events ≡ capped (length (canon (star_of (map prefix_of (take l.item-index l.items)) star_emp)))
