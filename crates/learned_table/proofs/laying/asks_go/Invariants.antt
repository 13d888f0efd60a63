-- What was asked so far goes along.
use Rattle.std.proofs.Common.{Ok, true, take, map}
use Rattle.std.specs.Prelude.{All}
use Rattle.filled_states.specs.Registers.{number_at}
use Rattle.state_shapes.specs.RegisterLists.{lists_in}
use Rattle.state_shapes.specs.Goes.{Goes}
use Rattle.learned_table.specs.StepTree.{ask_of}
use Rattle.learned_table.specs.Suits.{GoesAlong}
use Rattle.learned_table.proofs.laying.asks_go.Given as goal

abbrev pub invariant-loop-ask : goal.invariant-loop-ask
invariant-loop-ask l =
    Goes (Ok true) (lists_in l.initial.found) (lists_in l.found) (Ok true)
    (λ x. All (GoesAlong (number_at x.keys x.numbers)) (map ask_of (take l.ask-index l.asks)))
