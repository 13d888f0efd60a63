-- The laws of bounds of texts: what is told of a text is one.
use Rattle.std.specs.Prelude.{◌≡◌, ℕ, List}
use Rattle.delta_end.specs.declared.objection.BoundName.{BoundName}
use Rattle.commands.specs.Bounding.{IsBounded, IsUnbounded}

-- the program of a text has one bound at most
abbrev pub BoundIsOne : Type 0
BoundIsOne = (text : List ℕ) (m n : ℕ) → IsBounded text m → IsBounded text n → m ≡ n

-- a bound is refused for one cause at most, at one place
abbrev pub UnboundedIsOne : Type 0
UnboundedIsOne = (text : List ℕ) (why other : BoundName) (at there : ℕ) → IsUnbounded text why at → IsUnbounded text other there → (why ≡ other) × (at ≡ there)

-- no bound is refused where there is one
abbrev pub BoundedIsNotRefused : Type 0
BoundedIsNotRefused = (text : List ℕ) (n : ℕ) (why : BoundName) (at : ℕ) → IsBounded text n → IsUnbounded text why at → ⊥
