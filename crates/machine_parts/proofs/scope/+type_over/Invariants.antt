-- The list gets shorter.
use Rattle.std.proofs.Common.{length}
use Rattle.machine_parts.proofs.scope.+type_over.Given as goal

abbrev pub decreases-type_over : goal.decreases-type_over
decreases-type_over l = length l.entries.now
