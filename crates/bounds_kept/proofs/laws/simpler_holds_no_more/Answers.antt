use Rattle.bounds_kept.proofs.SimplerBounds.{simpler_holds_no_more}
use Rattle.bounds_kept.proofs.laws.simpler_holds_no_more.Goals as goal

pub returns : goal.returns
returns c = simpler_holds_no_more
