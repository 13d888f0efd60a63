-- What was held of the entries seen so far goes on, and the others are as they were.
use Rattle.std.proofs.Common.{◌≡◌, ◌++◌, map, take, drop}
use Rattle.delta_state.specs.Rest.{held_more}
use Rattle.machine_parts.specs.Entry.{entry_in}
use Rattle.machine_parts.specs.Scope.{streams_in}
use Rattle.machine_parts.proofs.holding.hold.Given as goal

abbrev pub invariant-loop-entry : goal.invariant-loop-entry
invariant-loop-entry l =
    map entry_in l.held
    ≡ held_more (take l.entry-index (map entry_in l.initial.held)) (streams_in l.scope) ++ drop l.entry-index (map entry_in l.initial.held)
