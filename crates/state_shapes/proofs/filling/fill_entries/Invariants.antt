-- The entries so far are those of the entries seen so far.
use Rattle.std.proofs.Common.{◌≡◌, take, map}
use Rattle.template_state.specs.Readers.{held_in}
use Rattle.state_shapes.specs.RegisterLists.{lists_of}
use Rattle.state_shapes.specs.From.{held_from}
use Rattle.state_shapes.proofs.filling.fill_entries.Given as goal

abbrev pub invariant-loop-entry : goal.invariant-loop-entry
invariant-loop-entry l = held_in l.found.items ≡ map (held_from (lists_of l.r)) (held_in (take l.entry-index l.held))
