-- The recursion goes down the words.
use Rattle.std.proofs.Common.{length}
use Rattle.table_feed.proofs.mixing.+most_events.Given as goal

abbrev pub decreases-most_events : goal.decreases-most_events
decreases-most_events l = length l.words.now
