-- The list gets shorter.
use Rattle.std.proofs.Common.{length}
use Rattle.machine_parts.proofs.scope.+stream_over.Given as goal

abbrev pub decreases-stream_over : goal.decreases-stream_over
decreases-stream_over l = length l.entries.now
