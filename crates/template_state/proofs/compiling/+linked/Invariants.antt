-- The list gets shorter.
use Rattle.std.proofs.Common.{length}
use Rattle.template_state.proofs.compiling.+linked.Given as goal

abbrev pub decreases-linked : goal.decreases-linked
decreases-linked l = length l.all.now
