-- The recursion goes down the number.
use Rattle.event_text.proofs.write.+append_digits.Given as goal

abbrev pub decreases-append_digits : goal.decreases-append_digits
decreases-append_digits l = l.n
