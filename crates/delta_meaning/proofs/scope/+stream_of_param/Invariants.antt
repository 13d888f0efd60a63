-- The list gets shorter.
use Rattle.std.proofs.Common.{length}
use Rattle.delta_meaning.proofs.scope.+stream_of_param.Given as goal

abbrev pub decreases-stream_of_param : goal.decreases-stream_of_param
decreases-stream_of_param l = length l.params.now
