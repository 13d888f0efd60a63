-- The list gets shorter.
use Rattle.std.proofs.Common.{length}
use Rattle.delta_meaning.proofs.functions.+function_named.Given as goal

abbrev pub decreases-function_named : goal.decreases-function_named
decreases-function_named l = length l.functions.now
