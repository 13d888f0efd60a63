-- With those of the arguments left, the names so far are those of all. Each call goes down, or is nearer to one that
-- does.
use Rattle.std.proofs.Common.{◌≡◌, ◌+◌, ◌*◌, ◌||◌, ℕ, drop}
use Rattle.bunch.specs.Names.{numbers_of, holds}
use Rattle.delta_keep.specs.declared.kept.KeptState.{size-KeptState}
use Rattle.delta_state.specs.StateTree.{free_in_arguments}
use Rattle.delta_keep.specs.KeptView.{arguments_from}
use Rattle.kept_check.proofs.free.+free.Given as goal

abbrev pub invariant-free_of_all-loop-arg : goal.invariant-free_of_all-loop-arg
invariant-free_of_all-loop-arg l =
    (x : ℕ) → (holds x (numbers_of l.names.items) || holds x (free_in_arguments (arguments_from (drop l.arg-index l.args)))) ≡ holds x (free_in_arguments (arguments_from l.args))

abbrev pub decreases-free_in : goal.decreases-free_in
decreases-free_in l = 2 * size-KeptState l.s.now

abbrev pub decreases-free_of_all : goal.decreases-free_of_all
decreases-free_of_all l = 2 * goal.size-free_of_all l + 1
