-- Where those that are left fit, all do.
use Rattle.std.proofs.Common.{◌≡◌, Ok, true, drop, map}
use Rattle.stream_prefix.specs.Tree.{prefix_of}
use Rattle.state_shapes.specs.RegisterLists.{lists_in}
use Rattle.state_shapes.specs.From.{prefix_from}
use Rattle.state_shapes.specs.Goes.{Goes}
use Rattle.state_shapes.proofs.matching_values.+prefix_goes.Given as goal

abbrev pub invariant-prefixes_go-loop-shape : goal.invariant-prefixes_go-loop-shape
invariant-prefixes_go-loop-shape l =
    Goes (Ok true) (lists_in l.initial.found) (lists_in l.found) (Ok true)
    (λ x. map prefix_of l.others ≡ map (prefix_from x) (map prefix_of (drop l.shape-index l.shapes)) → map prefix_of l.prefixes ≡ map (prefix_from x) (map prefix_of l.shapes))
