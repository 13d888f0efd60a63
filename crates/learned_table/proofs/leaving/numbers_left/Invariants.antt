-- The numbers so far are those of the registers seen so far.
use Rattle.std.proofs.Common.{◌≡◌, take, map}
use Rattle.learned_table.specs.FoundNumbers.{number_in}
use Rattle.learned_table.proofs.leaving.numbers_left.Given as goal

abbrev pub invariant-loop-n : goal.invariant-loop-n
invariant-loop-n l = l.into.items ≡ map (number_in l.found) (take l.n-index l.step.numbers_left.items)
