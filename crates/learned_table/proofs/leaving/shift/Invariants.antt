-- What is left to look through gives the same.
use Rattle.std.proofs.Common.{◌≡◌, drop}
use Rattle.filled_states.specs.Shifts.{shift}
use Rattle.learned_table.proofs.leaving.shift.Given as goal

abbrev pub invariant-loop-b : goal.invariant-loop-b
invariant-loop-b l = shift (drop l.b-index l.learned) l.others l.far l.depth ≡ shift l.learned l.depths l.far l.depth
