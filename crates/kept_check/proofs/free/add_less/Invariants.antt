-- With the names left, less some, those so far are all.
use Rattle.std.proofs.Common.{◌≡◌, ◌||◌, ◌&&◌, not, ℕ, drop}
use Rattle.bunch.specs.Names.{numbers_of, holds}
use Rattle.kept_check.proofs.free.add_less.Given as goal

abbrev pub invariant-loop-name : goal.invariant-loop-name
invariant-loop-name l =
    (x : ℕ)
    → (holds x (numbers_of l.names.items) || (holds x (numbers_of (drop l.name-index l.more)) && not (holds x (numbers_of l.less))))
    ≡ (holds x (numbers_of l.fn.names.items) || (holds x (numbers_of l.more) && not (holds x (numbers_of l.less))))
