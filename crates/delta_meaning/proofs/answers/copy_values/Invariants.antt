-- The copies so far are equal to the values seen so far.
use Rattle.std.proofs.Common.{◌≡◌, take, map}
use Rattle.hist_value.specs.HistValue.{hist_value_of}
use Rattle.delta_meaning.proofs.answers.copy_values.Given as goal

abbrev pub invariant-loop-v : goal.invariant-loop-v
invariant-loop-v l = map hist_value_of l.copies.items ≡ map hist_value_of (take l.v-index l.values)
