use Rattle.std.proofs.Common.{◌≡◌, List, ◌++◌, take}
use Rattle.event_word.specs.StreamEvent.{StreamEvent}
use Rattle.delta_load.specs.Counting.{totals_of}
use Rattle.delta_load.proofs.totals.Totals.with_word.Given as goal

abbrev pub invariant-loop-x : goal.invariant-loop-x
invariant-loop-x l = (word : List StreamEvent) → l.fn.self ≡ totals_of word → l.totals ≡ totals_of (word ++ take l.x-index l.more)
