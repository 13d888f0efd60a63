-- The recursion goes down the slice.
use Rattle.std.proofs.Common.{length}
use Rattle.event_text.proofs.read.+are_digits.Given as goal

abbrev pub decreases-are_digits : goal.decreases-are_digits
decreases-are_digits l = length l.bytes.now
