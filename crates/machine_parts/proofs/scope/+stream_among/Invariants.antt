-- The list gets shorter.
use Rattle.std.proofs.Common.{length}
use Rattle.machine_parts.proofs.scope.+stream_among.Given as goal

abbrev pub decreases-stream_among : goal.decreases-stream_among
decreases-stream_among l = length l.entries.now
