-- The level from below is the one from above.
use Rattle.core_term.proofs.Levels.{level_is_from_above}
use Rattle.core_term.proofs.laws.level_is_from_above.Goals as goal

pub returns : goal.returns
returns c = level_is_from_above
