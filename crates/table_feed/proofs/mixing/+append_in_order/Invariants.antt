-- The recursion goes down the words.
use Rattle.std.proofs.Common.{length}
use Rattle.table_feed.proofs.mixing.+append_in_order.Given as goal

abbrev pub decreases-append_in_order : goal.decreases-append_in_order
decreases-append_in_order l = length l.left.now
