-- Bunches rearranged, as functions: the part at the end of a path, the leaf of a name, and what a step makes of
-- a part.
use Rattle.std.specs.Prelude.{ℕ, ◌==◌, Bool, true, false, ◌||◌, ◌&&◌, List, [], ◌∷◌, Option, Some, None, option_map, if◌then◌else◌, is_some}
use Rattle.stream_type.specs.StreamType.{StreamType}
use Rattle.bunch.specs.BunchTree.{BunchTree, empty, leaf, comma, semi}
use Rattle.core_term.specs.Parts.{is_same_type}
use Rattle.core_term.specs.TypeFaults.{first_some}
use Rattle.bunch_rules.specs.Rearranging.{Turn, to_left, to_right, StepName, drop_step, swap_step, left_step, right_step, loosen_step, unit_step, before_step, after_step, beside_step}

-- what f makes of what is there
abbrev pub then_by : {A B : Type 0} → Option A → (A → Option B) → Option B
then_by None f = None
then_by (Some a) f = f a

-- the part at the end of a path, where it leads to one
abbrev pub part_at : List Turn → BunchTree → Option BunchTree
part_at [] g = Some g
part_at (to_left ∷ p) (comma a b) = part_at p a
part_at (to_right ∷ p) (comma a b) = part_at p b
part_at (to_left ∷ p) (semi a b) = part_at p a
part_at (to_right ∷ p) (semi a b) = part_at p b
part_at _ _ = None

-- the bunch with e in the place of the part at the end of a path
abbrev pub put_at : List Turn → BunchTree → BunchTree → BunchTree
put_at [] e g = e
put_at (to_left ∷ p) e (comma a b) = comma (put_at p e a) b
put_at (to_right ∷ p) e (comma a b) = comma a (put_at p e b)
put_at (to_left ∷ p) e (semi a b) = semi (put_at p e a) b
put_at (to_right ∷ p) e (semi a b) = semi a (put_at p e b)
put_at _ e g = g

-- three parts grouped to the left, the first standing apart
abbrev pub commas_left : BunchTree → BunchTree → Option BunchTree
commas_left b (comma c d) = Some (comma (comma b c) d)
commas_left b _ = None

abbrev pub semis_left : BunchTree → BunchTree → Option BunchTree
semis_left b (semi c d) = Some (semi (semi b c) d)
semis_left b _ = None

-- and to the right, the last standing apart
abbrev pub commas_right : BunchTree → BunchTree → Option BunchTree
commas_right (comma b c) d = Some (comma b (comma c d))
commas_right _ d = None

abbrev pub semis_right : BunchTree → BunchTree → Option BunchTree
semis_right (semi b c) d = Some (semi b (semi c d))
semis_right _ d = None

abbrev pub is_empty : BunchTree → Bool
is_empty empty = true
is_empty (leaf x t) = false
is_empty (comma a b) = false
is_empty (semi a b) = false

-- the side beside an empty one; the right one where both are empty
abbrev pub only_first : BunchTree → BunchTree → Option BunchTree
only_first b c = if is_empty c then Some b else None

abbrev pub only_side : BunchTree → BunchTree → Option BunchTree
only_side b c = if is_empty b then Some c else only_first b c

-- what a step makes of a part, where its form is the step's
abbrev pub stepped : StepName → BunchTree → Option BunchTree
stepped drop_step b = Some empty
stepped swap_step (comma b c) = Some (comma c b)
stepped left_step (comma b c) = commas_left b c
stepped left_step (semi b c) = semis_left b c
stepped right_step (comma b c) = commas_right b c
stepped right_step (semi b c) = semis_right b c
stepped loosen_step (semi b c) = Some (comma b c)
stepped unit_step (comma b c) = only_side b c
stepped unit_step (semi b c) = only_side b c
stepped before_step b = Some (semi empty b)
stepped after_step b = Some (semi b empty)
stepped beside_step b = Some (comma b empty)
stepped _ b = None

-- the bunch after a step at the end of a path
abbrev pub rearranged : StepName → List Turn → BunchTree → Option BunchTree
rearranged w [] g = stepped w g
rearranged w (to_left ∷ p) (comma a b) = option_map (λ c. comma c b) (rearranged w p a)
rearranged w (to_right ∷ p) (comma a b) = option_map (λ c. comma a c) (rearranged w p b)
rearranged w (to_left ∷ p) (semi a b) = option_map (λ c. semi c b) (rearranged w p a)
rearranged w (to_right ∷ p) (semi a b) = option_map (λ c. semi a c) (rearranged w p b)
rearranged w (t ∷ p) empty = None
rearranged w (t ∷ p) (leaf x s) = None

-- whether the leaf `x : t` stands in the bunch
abbrev pub has_leaf : BunchTree → ℕ → StreamType → Bool
has_leaf empty x t = false
has_leaf (leaf z s) x t = (z == x) && is_same_type s t
has_leaf (comma a b) x t = has_leaf a x t || has_leaf b x t
has_leaf (semi a b) x t = has_leaf a x t || has_leaf b x t

-- the type of the leaf of a name, where there is one
abbrev pub leaf_type : ℕ → BunchTree → Option StreamType
leaf_type z empty = None
leaf_type z (leaf x t) = if z == x then Some t else None
leaf_type z (comma a b) = first_some (leaf_type z a) (leaf_type z b)
leaf_type z (semi a b) = first_some (leaf_type z a) (leaf_type z b)

-- the bunch with e in the place of the leaf of a name
abbrev pub with_leaf : ℕ → BunchTree → BunchTree → BunchTree
with_leaf z e empty = empty
with_leaf z e (leaf x t) = if z == x then e else leaf x t
with_leaf z e (comma a b) = if is_some (leaf_type z a) then comma (with_leaf z e a) b else comma a (with_leaf z e b)
with_leaf z e (semi a b) = if is_some (leaf_type z a) then semi (with_leaf z e a) b else semi a (with_leaf z e b)
