-- What is put out so far are the items seen so far, and the numbers in them have their sizes.
use Rattle.std.proofs.Common.{◌+◌, ◌*◌, max, take}
use Rattle.stream_prefix.specs.declared.prefix.Prefix.{size-Prefix}
use Rattle.stream_prefix.specs.declared.prefix.StarEnd.{size-StarEnd}
use Rattle.stream_prefix.specs.Tree.{prefix_of}
use Rattle.kept_state.specs.KeptBytes.{prefix_bytes}
use Rattle.kept_state.specs.KeptSizes.{FitsPrefix}
use Rattle.delta_keep.proofs.PutSizes.{PutSome}
use Rattle.delta_keep.proofs.put_parts.+put_prefixes.Given as goal

abbrev pub invariant-put_prefixes-loop-item : goal.invariant-put_prefixes-loop-item
invariant-put_prefixes-loop-item l = PutSome prefix_bytes prefix_of FitsPrefix l.initial.out l.out (take l.item-index l.items)

abbrev pub decreases-put_prefix : goal.decreases-put_prefix
decreases-put_prefix l = 3 * size-Prefix l.p.now

abbrev pub decreases-put_one_prefix : goal.decreases-put_one_prefix
decreases-put_one_prefix l = 3 * size-Prefix l.p.now + 1

abbrev pub decreases-put_two_prefixes : goal.decreases-put_two_prefixes
decreases-put_two_prefixes l = max (3 * size-Prefix l.p.now) (3 * size-Prefix l.q.now) + 1

abbrev pub decreases-put_end : goal.decreases-put_end
decreases-put_end l = 3 * size-StarEnd l.end.now + 1

abbrev pub decreases-put_prefixes : goal.decreases-put_prefixes
decreases-put_prefixes l = 3 * goal.size-put_prefixes l + 1
