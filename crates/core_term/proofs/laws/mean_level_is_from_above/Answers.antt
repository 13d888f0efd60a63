-- A program's level is the one from above.
use Rattle.core_term.proofs.Levels.{mean_level_is_from_above}
use Rattle.core_term.proofs.laws.mean_level_is_from_above.Goals as goal

pub returns : goal.returns
returns c = mean_level_is_from_above
