-- The recursion goes down the names.
use Rattle.std.proofs.Common.{length}
use Rattle.commands.proofs.reading.+read_words.Given as goal

abbrev pub decreases-read_words : goal.decreases-read_words
decreases-read_words g l = length l.names.now
