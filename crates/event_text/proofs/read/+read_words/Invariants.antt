-- The recursion goes down the steps that may still come.
use Rattle.event_text.proofs.read.+read_words.Given as goal

abbrev pub decreases-read_words : goal.decreases-read_words
decreases-read_words l = l.left
