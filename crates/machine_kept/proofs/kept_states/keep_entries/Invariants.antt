-- What is kept so far are the entries seen so far.
use Rattle.std.proofs.Common.{◌≡◌, take, map}
use Rattle.template_state.specs.Readers.{held_in}
use Rattle.delta_keep.specs.KeptView.{held_of}
use Rattle.machine_kept.proofs.kept_states.keep_entries.Given as goal

abbrev pub invariant-loop-entry : goal.invariant-loop-entry
invariant-loop-entry l = map held_of l.found.items ≡ held_in (take l.entry-index l.held)
