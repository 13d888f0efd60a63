-- A state whose numbers and depths are keys, together with these keys.
use Rattle.std.specs.Prelude.{ℕ, ℤ, List}
use Rattle.delta_state.specs.StateTree.{StateTree}
use Rattle.filled_states.specs.Filled.{filled_state}

-- the keys of its numbers, those of its depths, and the state
pub record Shape : Type 0 where
  pub numbers : List ℤ
  pub depths : List ℕ
  pub state : StateTree

-- the state, filled from registers
abbrev pub filled : Shape → List ℤ → List ℕ → StateTree
filled t vs es = filled_state t.numbers vs t.depths es t.state
