-- Where those that are left fit, all do.
use Rattle.std.proofs.Common.{◌≡◌, Ok, true, drop, map}
use Rattle.template_state.specs.Readers.{held_in}
use Rattle.state_shapes.specs.RegisterLists.{lists_in}
use Rattle.state_shapes.specs.From.{held_from}
use Rattle.state_shapes.specs.Goes.{Goes}
use Rattle.state_shapes.proofs.matching.entries_go.Given as goal

abbrev pub invariant-loop-shape : goal.invariant-loop-shape
invariant-loop-shape l =
    Goes (Ok true) (lists_in l.initial.found) (lists_in l.found) (Ok true)
    (λ x. held_in l.others ≡ map (held_from x) (held_in (drop l.shape-index l.shapes)) → held_in l.held ≡ map (held_from x) (held_in l.shapes))
