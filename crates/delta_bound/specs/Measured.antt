-- What the measure of a term answers: how many events the term can hold at most, or the first case or wait in it
-- that counts a name without a size.
--
-- Choices that are not obvious:
-- - The measure stops at the first such node. Where it doesn't stop there is none in the term, and where it does
--   nothing is said of the bound.
use Rattle.std.specs.Prelude.{ℕ, ◌≡◌, ◌==◌, ⊤, Option, Some, None, Result, Ok, Err, if◌then◌else◌}
use Rattle.bunch.specs.declared.name.Name.{Name}
use Rattle.state_bounds.specs.Bounds.{Bound, both, greater}
use Rattle.delta_bound.specs.declared.stop.Stop.{Stop}
use Rattle.delta_bound.specs.declared.stop.Stop.TheVariants.{Memory, Found}
use Rattle.delta_bound.specs.declared.stop.Unsized.{Unsized}
use Rattle.delta_bound.specs.Unsized.{told}

-- the bound, where no name without a size was found, and otherwise the first with its place
abbrev pub Measures : Result Bound Stop → Bound → Option (ℕ × ℕ) → Type 0
Measures (Ok b) bound first = (b ≡ bound) × (first ≡ None)
Measures (Err Memory) bound first = ⊤
Measures (Err (Found u)) bound first = first ≡ Some (told u)

-- the same of two terms in turn
abbrev pub MeasuresTwo : Result (Bound × Bound) Stop → Bound → Bound → Option (ℕ × ℕ) → Type 0
MeasuresTwo (Ok b) one two first = (b.0 ≡ one) × (b.1 ≡ two) × (first ≡ None)
MeasuresTwo (Err Memory) one two first = ⊤
MeasuresTwo (Err (Found u)) one two first = first ≡ Some (told u)

-- what names can hold together, or the first of them without a size
abbrev pub Sums : Result Bound Name → Bound → Option ℕ → Type 0
Sums (Ok b) bound first = (b ≡ bound) × (first ≡ None)
Sums (Err x) bound first = first ≡ Some x.0

-- two measures in turn
abbrev pub in_turn : Bound → Result Bound Stop → Result (Bound × Bound) Stop
in_turn a (Ok b) = Ok (a, b)
in_turn a (Err stop) = Err stop

-- two parts that run at a time
abbrev pub together : Result (Bound × Bound) Stop → Result Bound Stop
together (Ok b) = Ok (both b.0 b.1)
together (Err stop) = Err stop

-- two parts of which one runs at a time
abbrev pub either : Result (Bound × Bound) Stop → Result Bound Stop
either (Ok b) = Ok (greater b.0 b.1)
either (Err stop) = Err stop

-- what waits for a part, beside the part
abbrev pub beside : Bound → Result Bound Stop → Result Bound Stop
beside a (Ok b) = Ok (greater a b)
beside a (Err stop) = Err stop

-- a part and the function that is called with it
abbrev pub with_number : Result Bound Stop → Bound → Result Bound Stop
with_number (Ok b) n = Ok (both b n)
with_number (Err stop) n = Err stop

-- the sum with the room of one name more
abbrev pub with_room : Bound → Name → Bound → Result Bound Name
with_room all y (Some n) = Ok (both all (Some n))
with_room all y None = Err y

-- the same where z isn't counted
abbrev pub with_name : (ℕ → Bound) → ℕ → Bound → Name → Result Bound Name
with_name room z all y = if y.0 == z then Ok all else with_room all y (room y.0)

-- what names can hold together that belong to the node at this place
abbrev pub at_place : ℕ → Result Bound Name → Result Bound Stop
at_place at (Ok b) = Ok b
at_place at (Err x) = Err (Found (record { name = x; at = at }))

-- the bound that a measure tells: where it stops at a name, there is none
abbrev pub IsHeld : Result Bound Stop → Bound → Type 0
IsHeld (Ok b) c = c ≡ b
IsHeld (Err Memory) c = ⊥
IsHeld (Err (Found u)) c = c ≡ None

-- the name at which it stops
abbrev pub IsFound : Result Bound Stop → Option Unsized → Type 0
IsFound (Ok b) o = o ≡ None
IsFound (Err Memory) o = ⊥
IsFound (Err (Found u)) o = o ≡ Some u
