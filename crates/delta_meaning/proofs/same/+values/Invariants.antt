-- Where those that are left are the same, all are.
use Rattle.std.proofs.Common.{◌≡◌, drop, map}
use Rattle.hist_value.specs.HistValue.{hist_value_of}
use Rattle.delta_meaning.proofs.same.+values.Given as goal

abbrev pub invariant-are_same_values-loop-v : goal.invariant-are_same_values-loop-v
invariant-are_same_values-loop-v l = map hist_value_of (drop l.v-index l.vs) ≡ map hist_value_of l.others → map hist_value_of l.vs ≡ map hist_value_of l.ws
