-- The copies so far are equal to the items seen so far.
use Rattle.std.proofs.Common.{◌≡◌, take, map}
use Rattle.hist_value.specs.HistValue.{hist_value_of}
use Rattle.hist_value.proofs.copying.+copy.Given as goal

abbrev pub invariant-copy_items-loop-item : goal.invariant-copy_items-loop-item
invariant-copy_items-loop-item l = map hist_value_of l.copies.items ≡ map hist_value_of (take l.item-index l.items)
