use Rattle.names_kept.proofs.SimplerNames.{simpler_stays_tidy}
use Rattle.names_kept.proofs.laws.simpler_stays_tidy.Goals as goal

pub returns : goal.returns
returns c = simpler_stays_tidy
