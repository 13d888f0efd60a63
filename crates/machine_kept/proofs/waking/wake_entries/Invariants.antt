-- The entries so far are those seen so far.
use Rattle.std.proofs.Common.{◌≡◌, take, map}
use Rattle.template_state.specs.Readers.{held_in}
use Rattle.delta_keep.specs.KeptView.{held_of}
use Rattle.machine_kept.proofs.waking.wake_entries.Given as goal

abbrev pub invariant-loop-entry : goal.invariant-loop-entry
invariant-loop-entry l = held_in l.found.items ≡ map held_of (take l.entry-index l.held)
