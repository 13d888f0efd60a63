-- Paths into a bunch, what stands at their ends, and the steps that rearrange a bunch.
--
-- Choices that are not obvious:
-- - A path is a list of turns from the root down. It leads to a part of a bunch only where a comma or a
--   semicolon stands at each turn.
-- - A step rearranges the part at the end of a path and leaves all around it as it is. No step adds a name,
--   and none adds a fact of order: it drops names or facts, or keeps what is known in another form.
use Rattle.std.specs.Prelude.{Bool, true, false, List, [], ◌∷◌}
use Rattle.bunch.specs.BunchTree.{BunchTree, empty, leaf, comma, semi}

-- a turn at a comma or a semicolon
pub data Turn : Type 0 where
  to_left : Turn
  to_right : Turn

-- the part d stands at the end of the path in the first bunch, and the second is that bunch with e in its place
pub data Replaces (d e : BunchTree) : List Turn → BunchTree → BunchTree → Type 0 where
  right_here : Replaces d e [] d e
  left_of_comma : {p : List Turn} {a b c : BunchTree} → Replaces d e p a c → Replaces d e (to_left ∷ p) (comma a b) (comma c b)
  right_of_comma : {p : List Turn} {a b c : BunchTree} → Replaces d e p b c → Replaces d e (to_right ∷ p) (comma a b) (comma a c)
  left_of_semi : {p : List Turn} {a b c : BunchTree} → Replaces d e p a c → Replaces d e (to_left ∷ p) (semi a b) (semi c b)
  right_of_semi : {p : List Turn} {a b c : BunchTree} → Replaces d e p b c → Replaces d e (to_right ∷ p) (semi a b) (semi a c)

-- whether a path never goes to the right at a semicolon
abbrev pub stays_first : List Turn → BunchTree → Bool
stays_first [] b = true
stays_first (to_left ∷ p) (comma a b) = stays_first p a
stays_first (to_right ∷ p) (comma a b) = stays_first p b
stays_first (to_left ∷ p) (semi a b) = stays_first p a
stays_first (to_right ∷ p) (semi a b) = false
stays_first (t ∷ p) empty = true
stays_first (t ∷ p) (leaf x s) = true

-- the steps by their names
pub data StepName : Type 0 where
  drop_step : StepName
  swap_step : StepName
  left_step : StepName
  right_step : StepName
  loosen_step : StepName
  unit_step : StepName
  before_step : StepName
  after_step : StepName
  beside_step : StepName

-- what a step makes of the part that it rearranges
pub data Becomes : StepName → BunchTree → BunchTree → Type 0 where
  -- anything is dropped
  dropped : {b : BunchTree} → Becomes drop_step b empty
  -- the sides of a comma change places, those of a semicolon never
  swapped : {b c : BunchTree} → Becomes swap_step (comma b c) (comma c b)
  -- three parts with the same sign between them are grouped to the left
  commas_to_left : {b c d : BunchTree} → Becomes left_step (comma b (comma c d)) (comma (comma b c) d)
  semis_to_left : {b c d : BunchTree} → Becomes left_step (semi b (semi c d)) (semi (semi b c) d)
  -- or to the right
  commas_to_right : {b c d : BunchTree} → Becomes right_step (comma (comma b c) d) (comma b (comma c d))
  semis_to_right : {b c d : BunchTree} → Becomes right_step (semi (semi b c) d) (semi b (semi c d))
  -- what stands before is put beside
  loosened : {b c : BunchTree} → Becomes loosen_step (semi b c) (comma b c)
  -- an empty side goes away
  left_unit_of_comma : {b : BunchTree} → Becomes unit_step (comma empty b) b
  right_unit_of_comma : {b : BunchTree} → Becomes unit_step (comma b empty) b
  left_unit_of_semi : {b : BunchTree} → Becomes unit_step (semi empty b) b
  right_unit_of_semi : {b : BunchTree} → Becomes unit_step (semi b empty) b
  -- and comes again
  empty_before : {b : BunchTree} → Becomes before_step b (semi empty b)
  empty_after : {b : BunchTree} → Becomes after_step b (semi b empty)
  empty_beside : {b : BunchTree} → Becomes beside_step b (comma b empty)
