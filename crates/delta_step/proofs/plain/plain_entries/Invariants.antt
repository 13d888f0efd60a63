-- The prefixes so far are those of the entries seen so far.
use Rattle.std.proofs.Common.{◌≡◌, take, map}
use Rattle.delta_state.specs.PlainState.{held_of, plain_held}
use Rattle.machine_parts.specs.Entry.{entry_in}
use Rattle.delta_step.proofs.plain.plain_entries.Given as goal

abbrev pub invariant-loop-entry : goal.invariant-loop-entry
invariant-loop-entry l = held_of l.found.items ≡ plain_held (map entry_in (take l.entry-index l.held))
