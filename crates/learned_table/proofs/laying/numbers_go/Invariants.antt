-- Where those that are left are laid, all are.
use Rattle.std.proofs.Common.{◌≡◌, Ok, true, drop, map}
use Rattle.filled_states.specs.Registers.{number_at}
use Rattle.state_shapes.specs.RegisterLists.{lists_in}
use Rattle.state_shapes.specs.Goes.{Goes}
use Rattle.learned_table.proofs.laying.numbers_go.Given as goal

abbrev pub invariant-loop-key : goal.invariant-loop-key
invariant-loop-key l =
    Goes (Ok true) (lists_in l.initial.found) (lists_in l.found) (Ok true)
    (λ x. map (number_at x.keys x.numbers) (drop l.key-index l.keys) ≡ l.others → map (number_at x.keys x.numbers) l.keys ≡ l.numbers)
