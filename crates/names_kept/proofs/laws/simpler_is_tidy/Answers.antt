use Rattle.names_kept.proofs.SimplerNames.{simpler_is_tidy}
use Rattle.names_kept.proofs.laws.simpler_is_tidy.Goals as goal

pub returns : goal.returns
returns c = simpler_is_tidy
