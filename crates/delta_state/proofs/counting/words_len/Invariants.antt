-- The count so far is that of the prefixes seen so far.
use Rattle.std.proofs.Common.{◌≡◌, take}
use Rattle.delta_state.specs.PlainState.{capped, events_in, held_of}
use Rattle.delta_state.proofs.counting.words_len.Given as goal

abbrev pub invariant-loop-prefix : goal.invariant-loop-prefix
invariant-loop-prefix l = l.events ≡ capped (events_in (held_of (take l.prefix-index l.held)))
