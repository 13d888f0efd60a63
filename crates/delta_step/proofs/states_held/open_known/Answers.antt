-- Code runs with its name known.
use Rattle.std.proofs.Common.{rules}
use Rattle.delta_step.proofs.FirstParts.{gives_of, same_gives}
use Rattle.delta_step.proofs.states_held.open_known.Goals as goal

pub returns : goal.returns
returns c = same_gives (search rules) (search rules) (gives_of _ _ _ _ _ c.reach.ensures.run c.reach.ensures.rest c.reach.ensures.counted c.reach.ensures.shallow c.reach.ensures.spent c.reach.ensures.deep)
