-- The list gets shorter.
use Rattle.std.proofs.Common.{length}
use Rattle.delta_meaning.proofs.scope.+type_of_param.Given as goal

abbrev pub decreases-type_of_param : goal.decreases-type_of_param
decreases-type_of_param l = length l.params.now
