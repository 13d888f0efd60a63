-- So much of the word was appended.
use Rattle.std.proofs.Common.{◌≡◌, ◌++◌, map, take}
use Rattle.table_feed.specs.Room.{placed}
use Rattle.table_feed.proofs.mixing.append_word.Given as goal

abbrev pub invariant-loop-event : goal.invariant-loop-event
invariant-loop-event l = l.mixed.items ≡ l.fn.mixed.items ++ map (placed l.depth l.is_last) (take l.event-index l.word)
