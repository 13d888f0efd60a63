-- Where nothing is to be written, nothing was.
use Rattle.std.proofs.Common.{[], refl}
use Rattle.delta_loop.proofs.Logs.{writes_same}
use Rattle.commands.proofs.feeding.feed_source.Goals as goal

pub returns-in-Err-clause-fed : goal.returns-in-Err-clause-fed
returns-in-Err-clause-fed g c = ([], writes_same _ _ refl, c.in-Err.ensures.ended)
