-- The list gets shorter.
use Rattle.std.proofs.Common.{length}
use Rattle.machine_parts.proofs.scope.+type_among.Given as goal

abbrev pub decreases-type_among : goal.decreases-type_among
decreases-type_among l = length l.entries.now
