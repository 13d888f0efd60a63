use Rattle.std.proofs.Common.{◌≡◌, ◌++◌, map, take, drop}
use Rattle.event_word.specs.StreamEvent.{under}
use Rattle.event_word.proofs.canonical.lift.Given as goal

abbrev pub invariant-loop-x : goal.invariant-loop-x
invariant-loop-x l =
    l.word ≡ map (under l.step) (take l.x-index l.initial.word) ++ drop l.x-index l.initial.word
