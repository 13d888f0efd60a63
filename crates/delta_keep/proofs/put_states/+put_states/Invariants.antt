-- What is put out so far are the items seen so far, and the numbers in them have their sizes.
use Rattle.std.proofs.Common.{◌+◌, ◌*◌, take}
use Rattle.delta_keep.specs.declared.kept.KeptState.{size-KeptState}
use Rattle.delta_keep.specs.declared.kept.Argument.{size-Argument}
use Rattle.delta_keep.specs.Written.{written_argument}
use Rattle.delta_keep.specs.Reads.{FitsArgument}
use Rattle.delta_keep.proofs.PutSizes.{PutSome}
use Rattle.delta_keep.proofs.put_states.+put_states.Given as goal

abbrev pub invariant-put_arguments-loop-arg : goal.invariant-put_arguments-loop-arg
invariant-put_arguments-loop-arg l = PutSome written_argument (λ a. a) FitsArgument l.initial.out l.out (take l.arg-index l.args)

abbrev pub decreases-put_state : goal.decreases-put_state
decreases-put_state l = 3 * size-KeptState l.s.now

abbrev pub decreases-put_arguments : goal.decreases-put_arguments
decreases-put_arguments l = 3 * goal.size-put_arguments l + 2

abbrev pub decreases-put_argument : goal.decreases-put_argument
decreases-put_argument l = 3 * size-Argument l.arg.now + 1
