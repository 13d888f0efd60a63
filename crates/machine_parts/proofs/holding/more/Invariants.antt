-- What is held so far is of the entries seen so far.
use Rattle.std.proofs.Common.{◌≡◌, take, map}
use Rattle.delta_state.specs.Rest.{held_more}
use Rattle.machine_parts.specs.Entry.{entry_in}
use Rattle.machine_parts.specs.Scope.{streams_in}
use Rattle.machine_parts.proofs.holding.more.Given as goal

abbrev pub invariant-loop-entry : goal.invariant-loop-entry
invariant-loop-entry l = map entry_in l.longer.items ≡ held_more (map entry_in (take l.entry-index l.held)) (streams_in l.scope)
