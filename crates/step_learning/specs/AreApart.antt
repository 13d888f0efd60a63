-- Depths at which a step can be learned.
use Rattle.std.specs.Prelude.{ℕ, ◌≤◌, List}
use Rattle.std.specs.List.{All}
use Rattle.filled_states.specs.Shifts.{AreSpread}
use Rattle.step_learning.specs.IsLearned.{depths_apart}

-- they are far apart, and great enough for all calls that an event may make
pub record AreApart (depths : List ℕ) : Type 0 where
  pub are_spread : AreSpread depths_apart depths
  pub are_deep : All (λ d. depths_apart ≤ d) depths
