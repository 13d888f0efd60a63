-- The count so far is that of the arguments seen so far.
use Rattle.std.proofs.Common.{◌≡◌, take, map}
use Rattle.delta_state.specs.PlainState.{capped, events_held_by, argument_of, arguments_from}
use Rattle.delta_state.proofs.counting.+held.Given as goal

abbrev pub invariant-held_by_all-loop-argument : goal.invariant-held_by_all-loop-argument
invariant-held_by_all-loop-argument l = l.events ≡ capped (events_held_by (arguments_from (map argument_of (take l.argument-index l.arguments))))
