-- The values so far are those of the expressions seen so far.
use Rattle.std.proofs.Common.{◌≡◌, take, map}
use Rattle.hist_value.specs.HistValue.{hist_value_of}
use Rattle.delta_tree.specs.Tree.{hist_of}
use Rattle.delta_meaning.specs.SourceMeaning.{written_values}
use Rattle.delta_meaning.specs.Scope.{past_in}
use Rattle.delta_meaning.proofs.scope.values_in.Given as goal

abbrev pub invariant-loop-m : goal.invariant-loop-m
invariant-loop-m l = map hist_value_of l.values.items ≡ written_values (map hist_of (take l.m-index l.ms)) (past_in l.scope)
