-- Where those that are left fit, all do.
use Rattle.std.proofs.Common.{◌≡◌, Ok, true, drop, map}
use Rattle.hist_value.specs.HistValue.{hist_value_of}
use Rattle.state_shapes.specs.RegisterLists.{lists_in}
use Rattle.state_shapes.specs.From.{value_from}
use Rattle.state_shapes.specs.Goes.{Goes}
use Rattle.state_shapes.proofs.matching_values.+value_goes.Given as goal

abbrev pub invariant-values_go-loop-shape : goal.invariant-values_go-loop-shape
invariant-values_go-loop-shape l =
    Goes (Ok true) (lists_in l.initial.found) (lists_in l.found) (Ok true)
    (λ x. map hist_value_of l.others ≡ map (value_from x) (map hist_value_of (drop l.shape-index l.shapes)) → map hist_value_of l.values ≡ map (value_from x) (map hist_value_of l.shapes))
