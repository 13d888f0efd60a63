-- The count so far is that of the arguments seen so far.
use Rattle.std.proofs.Common.{◌≡◌, take, map}
use Rattle.delta_state.specs.PlainState.{capped, state_counts, argument_of, arguments_from}
use Rattle.delta_state.proofs.counting.+count.Given as goal

abbrev pub invariant-count_all-loop-argument : goal.invariant-count_all-loop-argument
invariant-count_all-loop-argument l = l.states ≡ capped (state_counts (arguments_from (map argument_of (take l.argument-index l.arguments))))
