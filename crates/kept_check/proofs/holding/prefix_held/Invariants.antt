-- None of those seen so far is of the name.
use Rattle.std.proofs.Common.{◌≡◌, drop, map}
use Rattle.delta_state.specs.StateMeaning.{prefixes_held}
use Rattle.delta_keep.specs.KeptView.{held_of}
use Rattle.kept_check.proofs.holding.prefix_held.Given as goal

abbrev pub invariant-loop-entry : goal.invariant-loop-entry
invariant-loop-entry l = prefixes_held (map held_of (drop l.entry-index l.held)) l.x.0 ≡ prefixes_held (map held_of l.held) l.x.0
