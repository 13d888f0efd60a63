-- A learned step whose states are shapes, filled from registers. Where it is made again only the registers are moved.
--
-- Choices that are not obvious:
-- - The registers at which it was learned are in the record, and those that are there when it is made again aren't:
--   they are made of these by f and by g.
-- - No registers are empty. A shape without numbers has one that nothing reads.
use Rattle.std.specs.Prelude.{ℕ, ℤ, ◌≡◌, ◌<◌, ◌≤◌, List, length}
use Rattle.std.specs.List.{All}
use Rattle.core_term.specs.CoreTerm.{CoreProgram}
use Rattle.filled_states.specs.Shape.{Shape, filled}
use Rattle.filled_states.specs.Shifts.{AreSpread}
use Rattle.learned_steps.specs.Learned.{Learned}

-- a step that was learned at these registers, and left those
pub record LearnedShapes (c : CoreProgram) : Type 0 where
  pub step : Learned c
  pub before : Shape
  pub after : Shape
  pub numbers : List ℤ
  pub depths : List ℕ
  pub numbers_left : List ℤ
  pub depths_left : List ℕ
  pub is_before : step.state ≡ filled before numbers depths
  pub is_after : step.next ≡ filled after numbers_left depths_left
  pub has_numbers : 0 < length numbers
  pub has_depths : 0 < length depths
  pub leaves_numbers : 0 < length numbers_left
  pub leaves_depths : 0 < length depths_left

-- it was learned at depths that are far apart: each is more than m above the next, and none is less than m, which is
-- as many as its calls or more
pub record LearnedApart (c : CoreProgram) (t : LearnedShapes c) (m : ℕ) : Type 0 where
  pub are_spread : AreSpread m t.depths
  pub are_deep : All (λ d. m ≤ d) t.depths
  pub in_reach : t.step.calls ≤ m
