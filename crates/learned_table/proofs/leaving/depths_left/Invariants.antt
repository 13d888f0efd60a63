-- The depths so far are those of the registers seen so far.
use Rattle.std.proofs.Common.{◌≡◌, take, map}
use Rattle.filled_states.specs.Shifts.{shift}
use Rattle.learned_table.proofs.leaving.depths_left.Given as goal

abbrev pub invariant-loop-d : goal.invariant-loop-d
invariant-loop-d l = l.into.items ≡ map (shift l.step.depths.items l.depths 1000000) (take l.d-index l.step.depths_left.items)
