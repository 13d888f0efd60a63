-- The prefixes so far are those of the entries seen so far.
use Rattle.std.proofs.Common.{◌≡◌, take}
use Rattle.delta_state.specs.PlainState.{held_of, plain_held}
use Rattle.template_state.specs.Readers.{held_in}
use Rattle.template_state.proofs.without_marks.plain_entries.Given as goal

abbrev pub invariant-loop-entry : goal.invariant-loop-entry
invariant-loop-entry l = held_of l.found.items ≡ plain_held (held_in (take l.entry-index l.held))
