-- The copies so far are the numbers so far.
use Rattle.std.proofs.Common.{◌≡◌, take}
use Rattle.step_learning.proofs.apart.copied.Given as goal

abbrev pub invariant-loop-n : goal.invariant-loop-n
invariant-loop-n l = l.copies.items ≡ take l.n-index l.numbers
