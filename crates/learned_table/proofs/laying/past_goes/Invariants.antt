-- The values so far are those of the names seen so far.
use Rattle.std.proofs.Common.{◌≡◌, Ok, true, take}
use Rattle.hist_value.specs.Environment.{entries_of}
use Rattle.filled_states.specs.Registers.{number_at}
use Rattle.state_shapes.specs.RegisterLists.{lists_in}
use Rattle.state_shapes.specs.Goes.{Goes}
use Rattle.learned_table.proofs.EnvironmentNumbers.{exchanged_entries}
use Rattle.learned_table.proofs.laying.past_goes.Given as goal

abbrev pub invariant-loop-name : goal.invariant-loop-name
invariant-loop-name l =
    Goes (Ok true) (lists_in l.initial.found) (lists_in l.found) (Ok true)
    (λ x. entries_of l.seen.items ≡ exchanged_entries (number_at x.keys x.numbers) (entries_of (take l.name-index l.past)))
