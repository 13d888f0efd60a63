-- Other depths in the place of those of code that isn't reached: g is put in for each, be it greater or less. All else
-- stays as it is.
use Rattle.std.specs.Prelude.{ℕ, List, map}
use Rattle.delta_state.specs.StateTree.{LaterTree, StateTree, ArgumentTrees, laters_of}
use Rattle.mapped_states.specs.Mapped.{mapped, mapped_arguments}

-- the depths of a state's code that isn't reached, from left to right
abbrev pub depths_of : StateTree → List ℕ
depths_of s = map (λ l. l.depth) (laters_of s)

module _ (g : ℕ → ℕ) where
  -- code that isn't reached
  abbrev pub deepened_later : LaterTree → LaterTree
  deepened_later l = record { term = l.term; past = l.past; depth = g l.depth }

  -- a state
  abbrev pub deepened : StateTree → StateTree
  deepened s = mapped deepened_later (λ held. held) s

  -- the arguments of a call
  abbrev pub deepened_arguments : ArgumentTrees → ArgumentTrees
  deepened_arguments args = mapped_arguments deepened_later (λ held. held) args
