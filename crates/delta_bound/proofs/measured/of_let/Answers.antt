-- What was measured of both parts is put together.
use Rattle.std.proofs.Common.{rules}
use Rattle.delta_bound.proofs.measured.of_let.Goals as goal

pub returns-in-Ok : goal.returns-in-Ok
returns-in-Ok c = search rules
