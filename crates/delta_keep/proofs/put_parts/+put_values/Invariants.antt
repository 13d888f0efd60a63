-- What is put out so far are the items seen so far, and the numbers in them have their sizes.
use Rattle.std.proofs.Common.{◌+◌, ◌*◌, take}
use Rattle.hist_value.specs.declared.history.Value.{size-Value}
use Rattle.hist_value.specs.HistValue.{hist_value_of}
use Rattle.kept_state.specs.KeptBytes.{value_bytes}
use Rattle.kept_state.specs.KeptSizes.{FitsValue}
use Rattle.delta_keep.proofs.PutSizes.{PutSome}
use Rattle.delta_keep.proofs.put_parts.+put_values.Given as goal

abbrev pub invariant-put_values-loop-item : goal.invariant-put_values-loop-item
invariant-put_values-loop-item l = PutSome value_bytes hist_value_of FitsValue l.initial.out l.out (take l.item-index l.items)

abbrev pub decreases-put_value : goal.decreases-put_value
decreases-put_value l = 2 * size-Value l.v.now

abbrev pub decreases-put_values : goal.decreases-put_values
decreases-put_values l = 2 * goal.size-put_values l + 1
